-- Two frames in which one tree stands, but for its slots and places: its bodies have the same bytes in both but for the names of children and
-- extents. With the same slots and places they agree on every byte of its entries and bodies. Assumes nothing.
use Prim.Native.Nat.{ℕ, zero, suc, ◌+◌, ◌-◌, ◌*◌, ◌/◌, ◌<◌, ◌≤◌}
use mathlib.Core.Path.{◌≡◌, refl, sym, ap, ◌∙◌}
use mathlib.Core.List.{List}
use mathlib.Core.Bool.{Bool, true, false}
use mathlib.Core.Logic.{◌⊎◌, inl, inr, ⊎_elim}
use mathlib.Core.Option.{Option, none, some}
use native.Mathlib.Numerals.{add-one}
use native.Mathlib.Omega.{arith}
use native.Mathlib.Decide.{dec_lt, ℕ_discrete}
use lib.ListN.{length, get_or, length-append}
use lib.Dec.{eqb}
use Rattle.layout.specs.Number.{le, byte_at, Bytes}
use Rattle.layout.specs.Place.{entry_at, leaf_key, prefix_length, prefix_bytes, prefix_most, node48_index, node48_children, node256_children}
use Rattle.layout.specs.Kind.{node48_kind, node256_kind, body_size, most, Inner}
use Rattle.layout.specs.Kind.Inner.{node4, node16, node48, node256}
use Rattle.layout.specs.Entry.{place_of, high_of, entry_of}
use Rattle.layout.proofs.NumberLaws.{le_inj}
use Rattle.layout.proofs.EntryLaws.{entry_again}
use Rattle.layout.proofs.KindLaws.{range_inner}
use Rattle.model.specs.Edition.{Value, text_of}
use Rattle.model.specs.Strings.{pick}
use Rattle.model.specs.Tree.{Kids}
use Rattle.model.specs.Body.{LeafAt, PrefixAt, byte_in, child_in, look_kid, SortedAt, Named, named_child, Node48At, slot_or_none, Node256At}
use Rattle.model.specs.Frame.{LayKids, slot_of, art_kids, pairs, Entry, Places, NodeOf}
use Rattle.model.specs.Frame.LayKids.{nil, kid}
use Rattle.model.specs.Freedom.{Copied, children_at, Child, NodeTwins}
use Rattle.model.proofs.StringLaws.{clash, bool_cases}
use Rattle.model.proofs.UniqueLaws.{look_later, look_nil}

-- ---- a Node48's index

index_none : (f : List ℕ) (o b : ℕ) → named_child f o b ≡ none → b ≡ 0
unfolding named_child
index_none f o zero e = refl
index_none f o (suc b) e = clash (cc)

named_is : (f : List ℕ) (o p : ℕ) → named_child f o (p + 1) ≡ some (le 4 f (o + node48_children + 4 * p))
unfolding named_child
named_is f o p = rw add-one refl

-- some of the first n entries names a place, or none does
named_below : (f : List ℕ) (o place n : ℕ) → n ≤ 256 → Named f o place ⊎ ((b : ℕ) → b < n → byte_at f (o + b) ≡ place → ⊥)
named_below f o place zero h = inr (λ b l. absurd (omega arith))
named_below f o place (suc n) h = elim (ℕ_discrete (byte_at f (o + n)) place) [
  | yes e ↦ inl (record { entry = n; below = omega arith; is = e })
  | no e ↦ ⊎_elim (λ N. inl N) (λ q. inr (λ b l. elim (ℕ_discrete b n) [ yes z ↦ rw z e | no z ↦ q b (omega arith) ])) (named_below f o place n (omega arith))
]

named_or : (f : List ℕ) (o place : ℕ) → Named f o place ⊎ (Named f o place → ⊥)
named_or f o place = ⊎_elim (λ N. inl N) (λ q. inr (λ N. q N.entry N.below N.is)) (named_below f o place 256 (omega arith))

-- ---- two nodes with the same children but for their slots

abbrev or_zero : Option ℕ → ℕ
or_zero none = 0
or_zero (some x) = x

or_slot : (x : ℕ) → or_zero (slot_or_none x) ≡ x
unfolding slot_or_none
or_slot zero = refl
or_slot (suc x) = refl

abbrev head_of : Kids → ℕ × ℕ
head_of Kids.nil = (0, 0)
head_of (Kids.kid b j a ks) = (b, j)

abbrev tail_of : Kids → Kids
tail_of Kids.nil = Kids.nil
tail_of (Kids.kid b j a ks) = ks

count_same : (ks ks' : LayKids) → art_kids ks ≡ art_kids ks' → length (pairs ks) ≡ length (pairs ks')
unfolding pairs
count_same nil nil e = refl
count_same nil (kid b j l ks) e = clash (cc)
count_same (kid b j l ks) nil e = clash (cc)
count_same (kid b j l ks) (kid b' j' l' ks') e = ap suc (count_same ks ks' (ap tail_of e))

bytes_same : (ks ks' : LayKids) → art_kids ks ≡ art_kids ks' → (i : ℕ) → byte_in (pairs ks) i ≡ byte_in (pairs ks') i
unfolding pairs
bytes_same nil nil e i = refl
bytes_same nil (kid b j l ks) e i = clash (cc)
bytes_same (kid b j l ks) nil e i = clash (cc)
bytes_same (kid b j l ks) (kid b' j' l' ks') e zero = ap (λ (z : Kids). (head_of z).0) e
bytes_same (kid b j l ks) (kid b' j' l' ks') e (suc i) = bytes_same ks ks' (ap tail_of e) i

child_is : (ks ks' : LayKids) (x y a b : ℕ) → x ≡ a → y ≡ b → Child ks ks' a b → Child ks ks' x y
child_is ks ks' x y a b p q c = rw (p, q) c

child_none : (ks ks' : LayKids) → art_kids ks ≡ art_kids ks' → Child ks ks' 0 0
unfolding Child
child_none nil nil e = (refl, refl)
child_none nil (kid b j l ks) e = clash (cc)
child_none (kid b j l ks) nil e = clash (cc)
child_none (kid b j l ks) (kid b' j' l' ks') e = inr (child_none ks ks' (ap tail_of e))

-- by place, and by byte
child_at : (ks ks' : LayKids) → art_kids ks ≡ art_kids ks' → (i : ℕ) → Child ks ks' (child_in (pairs ks) i) (child_in (pairs ks') i)
unfolding Child pairs
child_at nil nil e i = (refl, refl)
child_at nil (kid b j l ks) e i = clash (cc)
child_at (kid b j l ks) nil e i = clash (cc)
child_at (kid b j l ks) (kid b' j' l' ks') e zero = inl (refl, refl)
child_at (kid b j l ks) (kid b' j' l' ks') e (suc i) = inr (child_at ks ks' (ap tail_of e) i)

child_look : (c : ℕ) (ks ks' : LayKids) → art_kids ks ≡ art_kids ks' → Child ks ks' (or_zero (look_kid c (pairs ks))) (or_zero (look_kid c (pairs ks')))
unfolding Child pairs look_kid
child_look c nil nil e = (refl, refl)
child_look c nil (kid b j l ks) e = clash (cc)
child_look c (kid b j l ks) nil e = clash (cc)
child_look c (kid b j l ks) (kid b' j' l' ks') e =
    let h : b ≡ b' = ap (λ (z : Kids). (head_of z).0) e in
    let on = child_look c ks ks' (ap tail_of e) in
    bool_cases (eqb b c)
    (λ t. let u : eqb b' c ≡ true = rw h at t in inl (ap or_zero (ap (λ (z : Bool). pick z (some (slot_of l)) (look_kid c (pairs ks))) t), ap or_zero (ap (λ (z : Bool). pick z (some (slot_of l')) (look_kid c (pairs ks'))) u)))
    (λ t. let u : eqb b' c ≡ false = rw h at t in inr (child_is ks ks'
    (or_zero (pick (eqb b c) (some (slot_of l)) (look_kid c (pairs ks)))) (or_zero (pick (eqb b' c) (some (slot_of l')) (look_kid c (pairs ks')))) (or_zero (look_kid c (pairs ks))) (or_zero (look_kid c (pairs ks')))
    (ap or_zero (ap (λ (z : Bool). pick z (some (slot_of l)) (look_kid c (pairs ks))) t)) (ap or_zero (ap (λ (z : Bool). pick z (some (slot_of l')) (look_kid c (pairs ks'))) u)) on))

-- of one node they are the same slots
child_self : (ks : LayKids) (x y : ℕ) → Child ks ks x y → x ≡ y
unfolding Child
child_self nil x y c = c.0 ∙ sym c.1
child_self (kid b j l ks) x y c = ⊎_elim (λ h. h.0 ∙ sym h.1) (child_self ks x y) c

fields_fill : {kind : ℕ} → Inner kind → children_at kind + 4 * most kind ≡ body_size kind
fields_fill node4 = refl
fields_fill node16 = refl
fields_fill node48 = refl
fields_fill node256 = refl

module _ (f g : List ℕ) (F : Bytes f) (G : Bytes g) where
  -- ---- a field and a row of bytes, in a body at o in f and in one at o' in g

  le_bytes : (w o o' : ℕ) → le w f o ≡ le w g o' → (j : ℕ) → j < w → byte_at f (o + j) ≡ byte_at g (o' + j)
  unfolding le
  le_bytes zero o o' e j h = absurd (omega arith)
  le_bytes (suc w) o o' e zero h =
      let x = F o in
      let y = G o' in
      let p : o + 0 ≡ o = omega arith in
      let q : o' + 0 ≡ o' = omega arith in
      rw (p, q) (omega arith)
  le_bytes (suc w) o o' e (suc j) h =
      let x = F o in
      let y = G o' in
      let r : byte_at f (o + 1 + j) ≡ byte_at g (o' + 1 + j) = le_bytes w (o + 1) (o' + 1) (omega arith) j (omega arith) in
      let p : o + 1 + j ≡ o + suc j = omega arith in
      let q : o' + 1 + j ≡ o' + suc j = omega arith in
      rw (p, q) at r

  field : (w c o o' : ℕ) → le w f (o + c) ≡ le w g (o' + c) → (j : ℕ) → c ≤ j → j < c + w → byte_at f (o + j) ≡ byte_at g (o' + j)
  field w c o o' e j l u =
      let r : byte_at f (o + c + (j - c)) ≡ byte_at g (o' + c + (j - c)) = le_bytes w (o + c) (o' + c) e (j - c) (omega arith) in
      let p : o + c + (j - c) ≡ o + j = omega arith in
      let q : o' + c + (j - c) ≡ o' + j = omega arith in
      rw (p, q) at r

  row : (c n o o' : ℕ) (x : ℕ → ℕ) → ((i : ℕ) → i < n → byte_at f (o + c + i) ≡ x i) → ((i : ℕ) → i < n → byte_at g (o' + c + i) ≡ x i) → (j : ℕ) → c ≤ j → j < c + n → byte_at f (o + j) ≡ byte_at g (o' + j)
  row c n o o' x P Q j l u =
      let r : byte_at f (o + c + (j - c)) ≡ byte_at g (o' + c + (j - c)) = P (j - c) (omega arith) ∙ sym (Q (j - c) (omega arith)) in
      let p : o + c + (j - c) ≡ o + j = omega arith in
      let q : o' + c + (j - c) ≡ o' + j = omega arith in
      rw (p, q) at r

  -- of one place
  at_byte : (o n : ℕ) → Copied f o g o 0 n → (a : ℕ) → o ≤ a → a < o + n → byte_at f a ≡ byte_at g a
  at_byte o n h a l u =
      let e : o + (a - o) ≡ a = omega arith in
      let r : byte_at f (o + (a - o)) ≡ byte_at g (o + (a - o)) = h (a - o) (omega arith) (omega arith) in
      rw e at r

  -- ---- an entry

  pub entry_bytes : (s k o : ℕ) → Entry f s k o → Entry g s k o → (a : ℕ) → entry_at s ≤ a → a < entry_at s + 4 → byte_at f a ≡ byte_at g a
  entry_bytes s k o A B =
      le_inj 4 f g (entry_at s) F G
      (sym (entry_again (le 4 f (entry_at s))) ∙ ap (λ (x : ℕ). entry_of x (place_of f s)) (A.kind_is ∙ sym B.kind_is) ∙ ap (entry_of (high_of g s)) (A.place_is ∙ sym B.place_is) ∙ entry_again (le 4 g (entry_at s)))

  -- ---- a Leaf and a Prefix

  pub leaf_twin : (o o' e e' : ℕ) (k : List ℕ) (v : Value) → LeafAt f o e k v → LeafAt g o' e' k v → Copied f o g o' leaf_key 16
  leaf_twin o o' e e' k v A B j l u = elim (dec_lt j 6) [
    | yes h ↦ field 2 4 o o' (A.key_length ∙ sym B.key_length) j l (omega arith)
    | no h ↦ elim (dec_lt j 8) [
      | yes i ↦ field 2 6 o o' (A.value_length ∙ sym B.value_length) j (omega arith) (omega arith)
      | no i ↦ field 8 8 o o' (A.stamp ∙ sym B.stamp) j (omega arith) (omega arith)
    ]
  ]

  pub text_twin : (o o' e e' : ℕ) (k : List ℕ) (v : Value) → LeafAt f o e k v → LeafAt g o' e' k v → Copied f e g e' 0 (length k + length (text_of v))
  text_twin o o' e e' k v A B j l u = let n = length-append k (text_of v) in A.text j (omega arith) ∙ sym (B.text j (omega arith))

  pub leaf_bytes : (o e : ℕ) (k : List ℕ) (v : Value) → LeafAt f o e k v → LeafAt g o e k v → (a : ℕ) → o ≤ a → a < o + 16 → byte_at f a ≡ byte_at g a
  leaf_bytes o e k v A B =
      at_byte o 16 (λ j l u. elim (dec_lt j 4) [ yes h ↦ field 4 0 o o (A.extent ∙ sym B.extent) j l (omega arith) | no h ↦ leaf_twin o o e e k v A B j (omega arith) u ])

  pub prefix_twin : (o o' : ℕ) (p : List ℕ) (c c' : ℕ) → PrefixAt f o p c → PrefixAt g o' p c' → Copied f o g o' prefix_length 128
  prefix_twin o o' p c c' A B j l u = elim (dec_lt j 6) [
    | yes h ↦ field 2 4 o o' (A.long ∙ sym B.long) j l (omega arith)
    | no h ↦ elim (dec_lt j 16) [
      | yes i ↦ row 6 10 o o' (λ z. 0) A.zeros B.zeros j (omega arith) (omega arith)
      | no i ↦ elim (dec_lt j (16 + length p)) [
        | yes t ↦ row 16 (length p) o o' (λ i. get_or p i 0) A.text B.text j (omega arith) (omega arith)
        | no t ↦ row (16 + length p) (prefix_most - length p) o o' (λ z. 0)
            (λ i q. let e : o + (16 + length p) + i ≡ o + prefix_bytes + length p + i = omega arith in rw e (A.rest i q))
            (λ i q. let e : o' + (16 + length p) + i ≡ o' + prefix_bytes + length p + i = omega arith in rw e (B.rest i q))
            j (omega arith) (omega (arith, A.most))
      ]
    ]
  ]

  pub prefix_bytes_lem : (o : ℕ) (p : List ℕ) (c : ℕ) → PrefixAt f o p c → PrefixAt g o p c → (a : ℕ) → o ≤ a → a < o + 128 → byte_at f a ≡ byte_at g a
  prefix_bytes_lem o p c A B =
      at_byte o 128 (λ j l u. elim (dec_lt j 4) [ yes h ↦ field 4 0 o o (A.child ∙ sym B.child) j l (omega arith) | no h ↦ prefix_twin o o p c c A B j (omega arith) u ])

  -- ---- the inner kinds

  -- Node48: an index entry names the place of a child, or none
  places_same : (o o' b : ℕ) (ks ks' : LayKids) → art_kids ks ≡ art_kids ks' → Places f o node48_kind ks → Places g o' node48_kind ks' → ((look_kid b (pairs ks) ≡ none) × (look_kid b (pairs ks') ≡ none)) ⊎ (byte_at f (o + node48_index + b) ≡ byte_at g (o' + node48_index + b))
  unfolding Places pairs
  places_same o o' b nil nil e P Q = inl (look_nil b, look_nil b)
  places_same o o' b nil (kid c j l ks) e P Q = clash (cc)
  places_same o o' b (kid c j l ks) nil e P Q = clash (cc)
  places_same o o' b (kid c j l ks) (kid c' j' l' ks') e P Q =
      let h : c ≡ c' = ap (λ (z : Kids). (head_of z).0) e in
      let i : j ≡ j' = ap (λ (z : Kids). (head_of z).1) e in
      elim (ℕ_discrete c b) [
        | yes q ↦
            let q' : c' ≡ b = sym h ∙ q in
            inr (ap (λ (z : ℕ). byte_at f (o + node48_index + z)) (sym q) ∙ P.0 ∙ i ∙ sym Q.0 ∙ ap (λ (z : ℕ). byte_at g (o' + node48_index + z)) q')
        | no q ↦ ⊎_elim
            (λ n. inl (look_later b (c, slot_of l) (pairs ks) q ∙ n.0, look_later b (c', slot_of l') (pairs ks') (λ z. q (h ∙ z)) ∙ n.1))
            (λ n. inr n) (places_same o o' b ks ks' (ap tail_of e) P.1 Q.1)
      ]

  module _ (ks ks' : LayKids) (same : art_kids ks ≡ art_kids ks') where
    sorted_copied : (o o' cap bytes : ℕ) → SortedAt f o cap bytes (pairs ks) → SortedAt g o' cap bytes (pairs ks') → Copied f o g o' 0 (bytes + cap)
    sorted_copied o o' cap bytes A B j l u = elim (dec_lt j 2) [
      | yes h ↦ field 2 0 o o' (A.count ∙ count_same ks ks' same ∙ sym B.count) j l (omega arith)
      | no h ↦ elim (dec_lt j bytes) [
        | yes i ↦ A.zeros j (omega arith) i ∙ sym (B.zeros j (omega arith) i)
        | no i ↦ row bytes cap o o' (byte_in (pairs ks)) A.bytes_are (λ z q. B.bytes_are z q ∙ sym (bytes_same ks ks' same z)) j (omega arith) (omega arith)
      ]
    ]

    sorted_child : (o o' cap bytes c : ℕ) → c ≡ bytes + cap → SortedAt f o cap bytes (pairs ks) → SortedAt g o' cap bytes (pairs ks') → (i : ℕ) → i < cap → Child ks ks' (le 4 f (o + c + 4 * i)) (le 4 g (o' + c + 4 * i))
    sorted_child o o' cap bytes c e A B i h =
        let p : o + c + 4 * i ≡ o + bytes + cap + 4 * i = omega arith in
        let q : o' + c + 4 * i ≡ o' + bytes + cap + 4 * i = omega arith in
        child_is ks ks' (le 4 f (o + c + 4 * i)) (le 4 g (o' + c + 4 * i)) (child_in (pairs ks) i) (child_in (pairs ks') i) (rw p (A.children i h)) (rw q (B.children i h)) (child_at ks ks' same i)

    index_same : (o o' : ℕ) → Node48At f o (pairs ks) → Node48At g o' (pairs ks') → Places f o node48_kind ks → Places g o' node48_kind ks' → (b : ℕ) → b < 256 → byte_at f (o + 8 + b) ≡ byte_at g (o' + 8 + b)
    index_same o o' A B P Q b l = ⊎_elim
        (λ h. index_none f o (byte_at f (o + 8 + b)) (A.look b l ∙ h.0) ∙ sym (index_none g o' (byte_at g (o' + 8 + b)) (B.look b l ∙ h.1)))
        (λ h. h) (places_same o o' b ks ks' same P Q)

    node48_twin : (o o' : ℕ) → Node48At f o (pairs ks) → Node48At g o' (pairs ks') → Places f o node48_kind ks → Places g o' node48_kind ks' → NodeTwins f o g o' node48_kind ks ks'
    node48_twin o o' A B P Q = record {
      copied = λ j l u. elim (dec_lt j 2) [
        | yes h ↦ field 2 0 o o' (A.count ∙ count_same ks ks' same ∙ sym B.count) j l (omega arith)
        | no h ↦ elim (dec_lt j 8) [
          | yes i ↦ A.zeros j (omega arith) i ∙ sym (B.zeros j (omega arith) i)
          | no i ↦ row 8 256 o o' (λ b. byte_at g (o' + 8 + b)) (index_same o o' A B P Q) (λ b q. refl) j (omega arith) (omega arith)
        ]
      ];
      names = λ p q. ⊎_elim
          (λ N.
          let b = N.entry in
          child_is ks ks' (le 4 f (o + node48_children + 4 * p)) (le 4 g (o' + node48_children + 4 * p)) (or_zero (look_kid b (pairs ks))) (or_zero (look_kid b (pairs ks')))
          (ap or_zero (sym (named_is f o p) ∙ ap (named_child f o) (sym N.is) ∙ A.look b N.below))
          (ap or_zero (sym (named_is g o' p) ∙ ap (named_child g o') (sym N.is ∙ index_same o o' A B P Q b N.below) ∙ B.look b N.below))
          (child_look b ks ks' same))
          (λ N. child_is ks ks' (le 4 f (o + node48_children + 4 * p)) (le 4 g (o' + node48_children + 4 * p)) 0 0 (A.unused p q N)
          (B.unused p q (λ M. N (record { entry = M.entry; below = M.below; is = index_same o o' A B P Q M.entry M.below ∙ M.is }))) (child_none ks ks' same))
          (named_or f (o + 8) (p + 1));
    }

    node256_twin : (o o' : ℕ) → Node256At f o (pairs ks) → Node256At g o' (pairs ks') → NodeTwins f o g o' node256_kind ks ks'
    node256_twin o o' A B = record {
      copied = λ j l u. elim (dec_lt j 2) [
        | yes h ↦ field 2 0 o o' (A.count ∙ count_same ks ks' same ∙ sym B.count) j l (omega arith)
        | no h ↦ A.zeros j (omega arith) u ∙ sym (B.zeros j (omega arith) u)
      ];
      names = λ b q. child_is ks ks' (le 4 f (o + node256_children + 4 * b)) (le 4 g (o' + node256_children + 4 * b)) (or_zero (look_kid b (pairs ks))) (or_zero (look_kid b (pairs ks')))
          (sym (or_slot (le 4 f (o + node256_children + 4 * b))) ∙ ap or_zero (A.look b q)) (sym (or_slot (le 4 g (o' + node256_children + 4 * b))) ∙ ap or_zero (B.look b q)) (child_look b ks ks' same);
    }

    pub node_twin : (o o' kind : ℕ) → NodeOf f o kind ks → NodeOf g o' kind ks' → NodeTwins f o g o' kind ks ks'
    node_twin o o' kind A B = go (range_inner kind A.inner.range.0 A.inner.range.1) A B
      where
        go : {kind : ℕ} → Inner kind → NodeOf f o kind ks → NodeOf g o' kind ks' → NodeTwins f o g o' kind ks ks'
        go node4 A B = record { copied = sorted_copied o o' 4 4 (A.inner.four refl) (B.inner.four refl); names = sorted_child o o' 4 4 8 refl (A.inner.four refl) (B.inner.four refl) }
        go node16 A B = record { copied = sorted_copied o o' 16 8 (A.inner.five refl) (B.inner.five refl); names = sorted_child o o' 16 8 24 refl (A.inner.five refl) (B.inner.five refl) }
        go node48 A B = node48_twin o o' (A.inner.six refl) (B.inner.six refl) A.places B.places
        go node256 A B = node256_twin o o' (A.inner.seven refl) (B.inner.seven refl)

  quarter : (n : ℕ) → (4 * (n / 4) ≤ n) × (n < 4 * (n / 4) + 4)
  quarter n = (omega arith, omega arith)

  pub node_bytes : (o kind : ℕ) (ks : LayKids) → NodeOf f o kind ks → NodeOf g o kind ks → (a : ℕ) → o ≤ a → a < o + body_size kind → byte_at f a ≡ byte_at g a
  node_bytes o kind ks A B =
      let T = node_twin ks ks refl o o kind A B in
      let n = fields_fill (range_inner kind A.inner.range.0 A.inner.range.1) in
      let c = children_at kind in
      at_byte o (body_size kind) (λ j l u. elim (dec_lt j c) [
        | yes h ↦ T.copied j l h
        | no h ↦
            let i = (j - c) / 4 in
            let q = quarter (j - c) in
            let s = child_self ks (le 4 f (o + c + 4 * i)) (le 4 g (o + c + 4 * i)) (T.names i (omega arith)) in
            let e : o + (c + 4 * i) ≡ o + c + 4 * i = omega arith in
            field 4 (c + 4 * i) o o (rw e s) j (omega arith) (omega arith)
      ])
