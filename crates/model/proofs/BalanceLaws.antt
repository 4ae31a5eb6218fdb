-- What put and erase take and free balances: slots and bytes before and after. Assumes nothing.
use Prim.Native.Nat.{ℕ, zero, suc, ◌+◌, ◌-◌, ◌*◌, ◌≤◌}
use native.Mathlib.Omega.{arith}
use mathlib.Core.Path.{◌≡◌, refl, ap, ◌∙◌}
use mathlib.Core.List.{List, [], ◌∷◌, ◌++◌, map}
use mathlib.Core.Bool.{true}
use lib.ListN.{length, take, drop, get_or, length-append}
use lib.Seq.{length-take-le}
use lib.Dec.{ltb, eqb}
use Rattle.layout.specs.Kind.{node4_kind, body_size, most, shrink_mark, kind_up, kind_down}
use Rattle.model.specs.Strings.{same, shared}
use Rattle.model.specs.Edition.{Edition, Legal, Lawful, Value, text_of}
use Rattle.model.specs.Tree.{Art, Kids, count, has, join, place_in, carried, as_prefix, fork, Change, over, idle, new_key, chain, prefixes, rechained, put_leaf, cut_prefix, add_child, put_tree, put_kids, Left, LeftKids, less_one, lone_child, under_prefix, close, close_under, after_kids, cons_kid, from_child, erase_tree, erase_kids, is_inner}
use Rattle.model.specs.Tree.Art.{leaf, prefix, node}
use Rattle.model.specs.Tree.Kids.{nil, kid}
use Rattle.model.specs.Tree.Left.{gone, one, kept}
use Rattle.model.specs.Tree.LeftKids.{fewer, still}
use Rattle.model.specs.State.{total, erase_change}
use Rattle.model.specs.Image.{slots, slots_kids, size, size_kids}
use Rattle.model.proofs.StringLaws.{bool_cases, eqb_cases, clash, shared_left, same_true}
use Rattle.model.proofs.Well.{NodeW, Well, WellKids}
use Rattle.model.proofs.WellLaws.{Walk, walk_start, walk_byte, walk_skip, walk_step, two, walk_on, node_inside, inner_inside}
use Rattle.model.proofs.FindLaws.{AtPrefix, at_prefix}
use Rattle.model.proofs.FindLaws.AtPrefix.{along, aside}
use Rattle.model.proofs.KidsLaws.{carried_slots, carried_size}
use Rattle.model.proofs.EraseLaws.{LeftOk, ClosedOk, LeftKidsOk, close_ok, erase_ok, erase_kids_ok}

-- the sizes of bodies of these kinds
abbrev pub bodies_of : List ℕ → ℕ
bodies_of ks = total (map body_size ks)

-- a call that turns s slots and z bytes of bodies and extents into s' and z'
pub record Even {A : Type 0} (s z s' z' : ℕ) (c : Change A) : Type 0 where
  pub slots : s' + length c.frees ≡ s + length c.takes
  pub bytes : z' + bodies_of c.frees + c.dead ≡ z + bodies_of c.takes + c.extent

pub even_more : {A B : Type 0} (f : A → B) (x y s z s' z' : ℕ) (c : Change A) → Even s z s' z' c → Even (x + s) (y + z) (x + s') (y + z') (over f c)
even_more f x y s z s' z' c h = let p = h.slots in let q = h.bytes in record { slots = omega arith; bytes = omega arith }

pub even_first : {A B : Type 0} (f : A → B) (x y s z s' z' : ℕ) (c : Change A) → Even s z s' z' c → Even (s + x) (z + y) (s' + x) (z' + y) (over f c)
even_first f x y s z s' z' c h = let p = h.slots in let q = h.bytes in record { slots = omega arith; bytes = omega arith }

-- Prefixes alone, and before others
prefixes_length : (n : ℕ) → length (prefixes n) ≡ n
prefixes_length zero = refl
prefixes_length (suc n) = ap suc (prefixes_length n)

prefixes_bodies : (n : ℕ) → bodies_of (prefixes n) ≡ n * 128
prefixes_bodies zero = refl
prefixes_bodies (suc n) = let on = prefixes_bodies n in omega arith

prefixes_more : (n : ℕ) (ks : List ℕ) → length (prefixes n ++ ks) ≡ n + length ks
prefixes_more n ks = length-append (prefixes n) ks ∙ rw (prefixes_length n)

prefixes_over : (n : ℕ) (ks : List ℕ) → bodies_of (prefixes n ++ ks) ≡ n * 128 + bodies_of ks
prefixes_over zero ks = omega arith
prefixes_over (suc n) ks = let on = prefixes_over n ks in omega arith

as_prefix_slots : (p : List ℕ) (a : Art) → slots (as_prefix p a) ≡ chain (length p) + slots a
as_prefix_slots [] a = omega arith
as_prefix_slots (x ∷ p) a = refl

as_prefix_size : (p : List ℕ) (a : Art) → size (as_prefix p a) ≡ chain (length p) * 128 + size a
as_prefix_size [] a = omega arith
as_prefix_size (x ∷ p) a = refl

join_slots : (b i : ℕ) (x : Art) (ks : Kids) → slots_kids (join b i x ks) ≡ slots x + slots_kids ks
join_slots b i x nil = refl
join_slots b i x (kid c j a ks) = let on = join_slots b i x ks in bool_cases (ltb b c) (λ t. rw t) (λ t. rw (t, on) (omega arith))

join_size : (b i : ℕ) (x : Art) (ks : Kids) → size_kids (join b i x ks) ≡ size x + size_kids ks
join_size b i x nil = refl
join_size b i x (kid c j a ks) = let on = join_size b i x ks in bool_cases (ltb b c) (λ t. rw t) (λ t. rw (t, on) (omega arith))

abbrev Balanced : Art → Change Art → Type 0
Balanced a c = Even (slots a) (size a) (slots c.now) (size c.now) c

abbrev BalancedKids : Kids → Change Kids → Type 0
BalancedKids ks c = Even (slots_kids ks) (size_kids ks) (slots_kids c.now) (size_kids c.now) c

-- ---- put

-- a key and a tree part: with what the Prefixes come to, the rest balances
even_fork : (w : List ℕ) (b c : ℕ) (k : List ℕ) (v : Value) (y : Art) (s z : ℕ) (takes frees : List ℕ)
    → chain (length w) + slots y + length frees ≡ s + length takes
    → chain (length w) * 128 + size y + bodies_of frees ≡ z + bodies_of takes
    → let c' = new_key k v (as_prefix w (fork b (leaf k v) c y)) (node4_kind ∷ takes) frees in Even s z (slots c'.now) (size c'.now) c'
even_fork w b c k v y s z takes frees h g = record {
  slots = rw (as_prefix_slots w (fork b (leaf k v) c y), join_slots b 0 (leaf k v) (kid c 0 y nil)) (omega arith);
  bytes = rw (as_prefix_size w (fork b (leaf k v) c y), join_size b 0 (leaf k v) (kid c 0 y nil)) (omega arith);
}

-- ---- erase: what is left

abbrev pub slots_l : Left → ℕ
slots_l gone = 0
slots_l (one b x) = slots x
slots_l (kept x) = slots x

abbrev pub size_l : Left → ℕ
size_l gone = 0
size_l (one b x) = size x
size_l (kept x) = size x

abbrev slots_lk : LeftKids → ℕ
slots_lk (fewer ks) = slots_kids ks
slots_lk (still ks) = slots_kids ks

abbrev size_lk : LeftKids → ℕ
size_lk (fewer ks) = size_kids ks
size_lk (still ks) = size_kids ks

-- balanced, and no extent is taken
pub record Even0 {A : Type 0} (s z s' z' : ℕ) (c : Change A) : Type 0 where
  pub even : Even s z s' z' c
  pub none : c.extent ≡ 0

-- ---- one child is left

-- other Prefixes: `was` before, `now` after
even_re : (was now : ℕ) (y : Art) (c : Change Left) (s z t u : ℕ) → Even0 s z t u c → slots y + was ≡ t + now → size y + was * 128 ≡ u + now * 128
    → Even0 s z (slots y) (size y) (rechained was now y c)
even_re was now y c s z t u h e g =
    let m = h.even.slots in let q = h.even.bytes in
    record {
      even = record {
        slots = rw (prefixes_more (was - now) c.frees, prefixes_more (now - was) c.takes) (omega arith);
        bytes = rw (prefixes_over (was - now) c.frees, prefixes_over (now - was) c.takes) (omega arith);
      };
      none = h.none;
    }

even_lone : (b : ℕ) (x : Art) (s z : ℕ) (c : Change Left) → Even0 s z (slots x) (size x) c
    → let c' = lone_child b x c in Even0 s z (slots_l c'.now) (size_l c'.now) c'
even_lone b (leaf k v) s z c h = record { even = record { slots = h.even.slots; bytes = h.even.bytes }; none = h.none }
even_lone b (prefix p a) s z c h =
    even_re (chain (length p)) (chain (suc (length p))) (prefix (b ∷ p) a) c s z (slots (prefix p a)) (size (prefix p a)) h (omega arith) (omega arith)
even_lone b (node kind ks) s z c h =
    even_re 0 (chain 1) (prefix (b ∷ []) (node kind ks)) c s z (slots (node kind ks)) (size (node kind ks)) h (omega arith) (omega arith)

-- under the Prefixes of p
even_past : (p : List ℕ) (x y : Art) (c : Change Left) (s z : ℕ) → Even0 s z (slots x) (size x) c → (was now : ℕ)
    → slots y + was ≡ chain (length p) + slots x + now → size y + was * 128 ≡ chain (length p) * 128 + size x + now * 128
    → Even0 (chain (length p) + s) (chain (length p) * 128 + z) (slots y) (size y) (rechained was now y c)
even_past p x y c s z h was now e g =
    let m = h.even.slots in let q = h.even.bytes in
    record {
      even = record {
        slots = rw (prefixes_more (was - now) c.frees, prefixes_more (now - was) c.takes) (omega arith);
        bytes = rw (prefixes_over (was - now) c.frees, prefixes_over (now - was) c.takes) (omega arith);
      };
      none = h.none;
    }

even_under : (p : List ℕ) (b : ℕ) (x : Art) (s z : ℕ) (c : Change Left) → Even0 s z (slots x) (size x) c
    → let c' = under_prefix p b x c in Even0 (chain (length p) + s) (chain (length p) * 128 + z) (slots_l c'.now) (size_l c'.now) c'
even_under p b (leaf k v) s z c h =
    let m = h.even.slots in let q = h.even.bytes in let r = h.none in
    record {
      even = record { slots = rw (prefixes_more (chain (length p)) c.frees) (omega arith); bytes = rw (prefixes_over (chain (length p)) c.frees) (omega arith) };
      none = r;
    }
even_under p b (prefix t a) s z c h =
    even_past p (prefix t a) (prefix (p ++ b ∷ t) a) c s z h (chain (length p) + chain (length t)) (chain (length p + suc (length t)))
    (rw (length-append p (b ∷ t)) (omega arith)) (rw (length-append p (b ∷ t)) (omega arith))
even_under p b (node kind ks) s z c h =
    even_past p (node kind ks) (prefix (p ++ b ∷ []) (node kind ks)) c s z h (chain (length p)) (chain (length p + 1))
    (rw (length-append p (b ∷ [])) (omega arith)) (rw (length-append p (b ∷ [])) (omega arith))

even_close : (l : Left) (s z : ℕ) (c : Change Left) → c.now ≡ l → Even0 s z (slots_l l) (size_l l) c
    → let c' = close l c in Even0 s z (slots_l c'.now) (size_l c'.now) c'
even_close gone s z c e h = record { even = record { slots = rw e h.even.slots; bytes = rw e h.even.bytes }; none = h.none }
even_close (one b x) s z c e h = even_lone b x s z c h
even_close (kept x) s z c e h = record { even = record { slots = rw e h.even.slots; bytes = rw e h.even.bytes }; none = h.none }

-- ---- a node

even_less : (kind : ℕ) (ks ls : Kids) (c : Change Left) → 2 ≤ count ks → suc (count ls) ≡ count ks → Even0 (slots_kids ks) (size_kids ks) (slots_kids ls) (size_kids ls) c
    → let c' = less_one kind ls c in Even0 (1 + slots_kids ks) (body_size kind + size_kids ks) (slots_l c'.now) (size_l c'.now) c'
even_less kind ks nil c o e h = absurd (omega arith)
even_less kind ks (kid b j a nil) c o e h =
    let m = h.even.slots in let q = h.even.bytes in let r = h.none in
    record { even = record { slots = omega arith; bytes = omega arith }; none = refl }
even_less kind ks (kid b j a (kid b' j' a' ls)) c o e h =
    let m = h.even.slots in let q = h.even.bytes in let r = h.none in
    let all = kid b j a (kid b' j' a' ls) in
    bool_cases (eqb (count all) (shrink_mark kind))
    (λ t. rw t record { even = record { slots = rw (carried_slots (kind_down kind) all) (omega arith); bytes = rw (carried_size (kind_down kind) all) (omega arith) }; none = refl })
    (λ t. rw t record { even = record { slots = omega arith; bytes = omega arith }; none = refl })

even_cons : (i j : ℕ) (a : Art) (ks : Kids) (l : LeftKids) (c : Change LeftKids) → Even0 (slots_kids ks) (size_kids ks) (slots_lk l) (size_lk l) c
    → let f = cons_kid i j a l in Even0 (slots a + slots_kids ks) (size a + size_kids ks) (slots_lk f) (size_lk f) (over (λ xs. cons_kid i j a xs) c)
even_cons i j a ks (fewer ls) c h =
    record { even = even_more (λ xs. cons_kid i j a xs) (slots a) (size a) (slots_kids ks) (size_kids ks) (slots_kids ls) (size_kids ls) c h.even; none = h.none }
even_cons i j a ks (still ls) c h =
    record { even = even_more (λ xs. cons_kid i j a xs) (slots a) (size a) (slots_kids ks) (size_kids ks) (slots_kids ls) (size_kids ls) c h.even; none = h.none }

even_idle : {A : Type 0} (x : A) (s z : ℕ) → Even0 s z s z (idle x)
even_idle x s z = record { even = record { slots = refl; bytes = omega arith }; none = refl }

abbrev BalancedL : Art → Change Left → Type 0
BalancedL a c = Even0 (slots a) (size a) (slots_l c.now) (size_l c.now) c

abbrev BalancedLk : Kids → Change LeftKids → Type 0
BalancedLk ks c = Even0 (slots_kids ks) (size_kids ks) (slots_lk c.now) (size_lk c.now) c

module _ {E : Edition} (L : Lawful E) where
  -- ---- put

  even_leaf : (d : ℕ) (k : List ℕ) (v : Value) (k' : List ℕ) (v' : Value) → Balanced (leaf k' v') (put_leaf E d k v k' v')
  even_leaf d k v k' v' = bool_cases (same k k')
      (λ e. eqb_cases (length (text_of v)) (length (text_of v'))
      (λ t q. let o = ap length (same_true k k' e) in rw (e, t) record { slots = refl; bytes = rw (o, q) })
      (λ t q. rw (e, t) record { slots = refl; bytes = omega arith }))
      (λ e. rw e (even_fork (take q r) (get_or r q 0) (get_or r' q 0) k v (leaf k' v') 1 (size (leaf k' v')) (prefixes (chain q)) []
      (rw (len, prefixes_length (chain q)) (omega arith))
      (rw (len, prefixes_bodies (chain q)) (omega arith))))
    where
      r : List ℕ
      r = drop d (E.walked k)

      r' : List ℕ
      r' = drop d (E.walked k')

      q : ℕ
      q = shared r r'

      len : length (take q r) ≡ q
      len = length-take-le q r (shared_left r r')

  even_split : (d : ℕ) (k : List ℕ) (v : Value) (p : List ℕ) (a : Art) → Balanced (prefix p a) (cut_prefix E d k v p a)
  even_split d k v p a =
      even_fork (take q p) (get_or r q 0) (get_or p q 0) k v (as_prefix after a) (chain (length p) + slots a) (chain (length p) * 128 + size a)
      (prefixes (chain q + chain (length after) - chain (length p))) (prefixes (chain (length p) - (chain q + chain (length after))))
      (rw (len, as_prefix_slots after a, prefixes_length (chain q + chain (length after) - chain (length p)), prefixes_length (chain (length p) - (chain q + chain (length after)))) (omega arith))
      (rw (len, as_prefix_size after a, prefixes_bodies (chain q + chain (length after) - chain (length p)), prefixes_bodies (chain (length p) - (chain q + chain (length after)))) (omega arith))
    where
      r : List ℕ
      r = drop d (E.walked k)

      q : ℕ
      q = shared p r

      after : List ℕ
      after = drop (suc q) p

      len : length (take q p) ≡ q
      len = length-take-le q p (shared_left p r)

  even_add : (d : ℕ) (k : List ℕ) (v : Value) (kind : ℕ) (ks : Kids) → Balanced (node kind ks) (add_child E d k v kind ks)
  even_add d k v kind ks =
      let b = get_or (E.walked k) d 0 in let cs = carried (kind_up kind) ks in
      bool_cases (ltb (count ks) (most kind))
      (λ t. rw t record {
        slots = rw (join_slots b (place_in kind ks) (leaf k v) ks) (omega arith);
        bytes = rw (join_size b (place_in kind ks) (leaf k v) ks) (omega arith);
      })
      (λ t. rw t record {
        slots = rw (join_slots b (place_in (kind_up kind) cs) (leaf k v) cs, carried_slots (kind_up kind) ks) (omega arith);
        bytes = rw (join_size b (place_in (kind_up kind) cs) (leaf k v) cs, carried_size (kind_up kind) ks) (omega arith);
      })

  mutual
    pub put_even : (a : Art) (d : ℕ) (k : List ℕ) (v : Value) → Balanced a (put_tree E a d k v)
    put_even (leaf k' v') d k v = even_leaf d k v k' v'
    put_even (prefix p a) d k v =
        let c = put_tree E a (d + length p) k v in
        bool_cases (eqb (shared p (drop d (E.walked k))) (length p))
        (λ t. rw t (even_more (λ x. prefix p x) (chain (length p)) (chain (length p) * 128) (slots a) (size a) (slots c.now) (size c.now) c (put_even a (d + length p) k v)))
        (λ t. rw t (even_split d k v p a))
    put_even (node kind ks) d k v =
        let c = put_kids E ks d k v in
        bool_cases (has (get_or (E.walked k) d 0) ks)
        (λ t. rw t (even_more (λ x. node kind x) 1 (body_size kind) (slots_kids ks) (size_kids ks) (slots_kids c.now) (size_kids c.now) c (put_kids_even ks d k v)))
        (λ t. rw t (even_add d k v kind ks))

    put_kids_even : (ks : Kids) (d : ℕ) (k : List ℕ) (v : Value) → BalancedKids ks (put_kids E ks d k v)
    put_kids_even nil d k v = record { slots = refl; bytes = refl }
    put_kids_even (kid c j a ks) d k v =
        let x = put_tree E a (d + 1) k v in let xs = put_kids E ks d k v in
        bool_cases (eqb c (get_or (E.walked k) d 0))
        (λ t. rw t (even_first (λ y. kid c j y ks) (slots_kids ks) (size_kids ks) (slots a) (size a) (slots x.now) (size x.now) x (put_even a (d + 1) k v)))
        (λ t. rw t (even_more (λ ys. kid c j a ys) (slots a) (size a) (slots_kids ks) (size_kids ks) (slots_kids xs.now) (size_kids xs.now) xs (put_kids_even ks d k v)))

  even_close_under : (p : List ℕ) (a : Art) (path k : List ℕ) (l : Left) (c : Change Left) → is_inner a ≡ true → LeftOk E a path k l → Even0 (slots a) (size a) (slots_l l) (size_l l) c
      → let c' = close_under p l c in Even0 (chain (length p) + slots a) (chain (length p) * 128 + size a) (slots_l c'.now) (size_l c'.now) c'
  even_close_under p a path k gone c i o h = clash (let f = o.1 in cc)
  even_close_under p a path k (one b x) c i o h = even_under p b x (slots a) (size a) c h
  even_close_under p a path k (kept x) c i o h =
      record { even = even_more (λ y. kept (prefix p x)) (chain (length p)) (chain (length p) * 128) (slots a) (size a) (slots x) (size x) c h.even; none = h.none }

  even_after : (kind : ℕ) (ks : Kids) (path k : List ℕ) (l : LeftKids) (c : Change LeftKids) → NodeW kind ks → LeftKidsOk E ks path 0 k l → Even0 (slots_kids ks) (size_kids ks) (slots_lk l) (size_lk l) c
      → let c' = after_kids kind l c in Even0 (1 + slots_kids ks) (body_size kind + size_kids ks) (slots_l c'.now) (size_l c'.now) c'
  even_after kind ks path k (fewer ls) c n o h =
      even_less kind ks ls (over (λ x. gone) c) (two kind ks n) o.1 record { even = record { slots = h.even.slots; bytes = h.even.bytes }; none = h.none }
  even_after kind ks path k (still ls) c n o h =
      record { even = even_more (λ y. kept (node kind ls)) 1 (body_size kind) (slots_kids ks) (size_kids ks) (slots_kids ls) (size_kids ls) c h.even; none = h.none }

  -- ---- erase

  even_from : (i j : ℕ) (a : Art) (ks : Kids) (path k : List ℕ) (l : Left) (c : Change Left) → ClosedOk E a path k l → Even0 (slots a) (size a) (slots_l l) (size_l l) c
      → let f = from_child i j ks l in Even0 (slots a + slots_kids ks) (size a + size_kids ks) (slots_lk f) (size_lk f) (over (λ x. f) c)
  even_from i j a ks path k gone c o h =
      let m = h.even.slots in let q = h.even.bytes in
      record { even = record { slots = omega arith; bytes = omega arith }; none = h.none }
  even_from i j a ks path k (one b x) c o h = absurd o
  even_from i j a ks path k (kept x) c o h =
      record { even = even_first (λ y. from_child i j ks (kept x)) (slots_kids ks) (size_kids ks) (slots a) (size a) (slots x) (size x) c h.even; none = h.none }

  even_at_prefix : (p : List ℕ) (a : Art) (path k : List ℕ) (d : ℕ) → Well E (prefix p a) path → AtPrefix E p path d k
      → ((r : List ℕ) → Walk E (path ++ p) (d + length p) k r → BalancedL a (erase_tree E a (d + length p) k))
      → BalancedL (prefix p a) (erase_tree E (prefix p a) d k)
  even_at_prefix p a path k d h (along r e w) ih =
      let c = erase_tree E a (d + length p) k in let w' = walk_skip p r w in
      rw e (even_close_under p a (path ++ p) k c.now c h.0.inner (erase_ok L a (path ++ p) h.1 (d + length p) k r w') (ih r w'))
  even_at_prefix p a path k d h (aside x b s c t e w g n) ih = rw e (even_idle (kept (prefix p a)) (chain (length p) + slots a) (chain (length p) * 128 + size a))

  mutual
    pub erase_even : (a : Art) (path : List ℕ) → Well E a path → (d : ℕ) (k r : List ℕ) → Walk E path d k r → BalancedL a (erase_tree E a d k)
    erase_even (leaf l v) path h d k r w = bool_cases (same k l)
        (λ e. rw e record { even = record { slots = refl; bytes = omega arith }; none = refl })
        (λ e. rw e (even_idle (kept (leaf l v)) 1 (size (leaf l v))))
    erase_even (prefix p a) path h d k r w =
        even_at_prefix p a path k d h (at_prefix L p path d k r (inner_inside L a (path ++ p) h.0.inner h.1) w)
        (λ r' w'. erase_even a (path ++ p) h.1 (d + length p) k r' w')
    erase_even (node kind ks) path h d k r w =
        let o = walk_on L r (node_inside L kind ks path h) w in let c = erase_kids E ks d k in
        even_after kind ks path k c.now c h.0 (erase_kids_ok L ks path 0 h.1 d k o.0 o.1 o.2) (erase_kids_even ks path 0 h.1 d k o.0 o.1 o.2)

    pub erase_kids_even : (ks : Kids) (path : List ℕ) (lo : ℕ) → WellKids E ks path lo → (d : ℕ) (k : List ℕ) (b : ℕ) (s : List ℕ) → Walk E path d k (b ∷ s) → BalancedLk ks (erase_kids E ks d k)
    erase_kids_even nil path lo h d k b s w = even_idle (still nil) 0 0
    erase_kids_even (kid c j a ks) path lo h d k b s w =
        eqb_cases c b
        (λ t q. let e = erase_tree E a (d + 1) k in let w' : Walk E (path ++ c ∷ []) (d + 1) k s = rw q (walk_step b s w) in
        let e' = close e.now e in
        rw (walk_byte b s w, t) (even_from c j a ks (path ++ c ∷ []) k e'.now e'
        (close_ok L a (path ++ c ∷ []) k e.now e refl (erase_ok L a (path ++ c ∷ []) h.2 (d + 1) k s w'))
        (even_close e.now (slots a) (size a) e refl (erase_even a (path ++ c ∷ []) h.2 (d + 1) k s w'))))
        (λ t n. let c' = erase_kids E ks d k in
        rw (walk_byte b s w, t) (even_cons c j a ks c'.now c' (erase_kids_even ks path (suc c) h.3 d k b s w)))

  pub erase_tree_even : (a : Art) (k : List ℕ) → Well E a [] → Legal E k → BalancedL a (erase_change E a k)
  erase_tree_even a k h l = let e = erase_tree E a 0 k in even_close e.now (slots a) (size a) e refl (erase_even a [] h 0 k (E.walked k) (walk_start k l))
