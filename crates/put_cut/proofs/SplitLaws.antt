-- The last bytes of a Prefix and those below it as a shared beginning of their own: `split_off`, exit by exit. Assumes nothing.
use Prim.Native.Nat.{ℕ, ◌+◌, ◌<◌, ◌≤◌}
use mathlib.Core.Path.{◌≡◌, refl, sym, ap, subst, ◌∙◌}
use mathlib.Core.List.{List, [], ◌∷◌, ◌++◌, append-nil}
use native.Mathlib.Omega.{arith}
use native.Mathlib.Decide.{dec_lt}
use lib.ListN.{length, take, drop, length-append, length-drop}
use lib.Seq.{take_all}
use Rattle.layout.specs.Number.{le}
use Rattle.layout.specs.Place.{entry_at, prefix_child, prefix_length}
use Rattle.layout.specs.Kind.{prefix_kind}
use Rattle.layout.specs.Entry.{high_of, place_of}
use Rattle.model.specs.Edition.{Edition}
use Rattle.model.specs.Tree.{chain, prefixes}
use Rattle.model.specs.Item.{Item, body, cover}
use Rattle.model.specs.Body.{PrefixAt}
use Rattle.model.specs.Frame.{Lay, slot_of, IsNode, View, Heap, freed}
use Rattle.model.specs.Frame.Lay.{prefix}
use Rattle.model.proofs.ItemLaws.{sum_cons, sum_app}
use Rattle.model.proofs.OneBody.{node_below}
use Rattle.moves.specs.Moved.{Only}
use Rattle.room.specs.View.{list_of, place_from, taken, Roomy}
use Rattle.room.specs.Step.{Takes, Took}
use Rattle.room.specs.Book.{taken_all, RoomFor}
use Rattle.room.proofs.HeapLaws.{two_apart, lies, Lies, cover_body}
use Rattle.room.proofs.BookLaws.{room_first}
use Rattle.between.specs.Hole.{Step, under, path_of}
use Rattle.between.specs.Work.{Work}
use Rattle.between.specs.Since.{Since}
use Rattle.between.proofs.HoleLaws.{steps_under}
use Rattle.between.proofs.SinceLaws.{since_take, since_write}
use Rattle.between.proofs.WorkLaws.{work_path, work_sum, work_take, work_write, work_above, make_prefix, entries_first, first_owns}
use Rattle.prefix_body.specs.Prefix.{Longer, Elsewhere}
use Rattle.chain.specs.Row.{Entered, bodies_of, bytes_of}
use Rattle.chain.proofs.TakeLaws.{prefix_kind_lem}
use Rattle.chain.proofs.ReadLaws.{tree_stood, entered_at}
use Rattle.chain.proofs.RunLaws.{node_run}
use Rattle.put_cut.specs.After.{lacking, Splitting, Split, SplitOff, Splits}
use Rattle.put_cut.proofs.RunLists.{none_past, path_parts, bare_node}
use Rattle.put_cut.proofs.DownLaws.{body_at, split_run}

-- ---- views

none_taken : (h : View) → taken_all h (prefixes 0) ≡ h
unfolding taken_all
none_taken h = refl

one_taken : (h : View) → taken_all h (prefixes 1) ≡ taken h prefix_kind
unfolding taken_all
one_taken h = refl

-- ---- what is read

module _ {f : List ℕ} {o q : ℕ} (A : Splits f o q) where
  pub split_room : o + 128 ≤ length f
  split_room = (body_at A.splitting).room

  pub split_entry : {c : ℕ} → c ≡ le 4 f (o + prefix_child) → Entered f c
  split_entry e = entered_at (tree_stood (path_of A.steps ++ A.bytes) A.trees A.loose A.below A.splitting.work) (sym (e ∙ (body_at A.splitting).child))

-- ---- no byte of the Prefix: what is below stays as it is

module _ {E : Edition} {f : List ℕ} {h : View} {xs : List Step} {n o : ℕ} {p : List ℕ} {l : Lay} {ts : List (List ℕ × Lay)} {loose : List Item} {q : ℕ} {ks : List ℕ} {x : ℕ} (Z : Splitting E f h xs n o p l ts loose q ks x) where
  none_split : length p ≡ q → Split E f f h xs n o p l ts loose q (slot_of l)
  none_split e =
      let d : drop q p ≡ [] = none_past q p (omega arith) in
      let z : lacking p l q ≡ 0 = omega (arith, ap (λ y. chain (length (y ++ bytes_of l))) d, (split_run Z).1) in
      let v : h ≡ taken_all h (prefixes (lacking p l q)) = sym (ap (λ y. taken_all h (prefixes y)) z ∙ none_taken h) in
      record {
        new = [];
        lay = l;
        many = sym z;
        work = subst (λ y. Work E f y (under n o p ∷ xs) (slot_of l) ((path_of xs ++ take q p, l) ∷ ts) loose) v (work_path l (ap (λ y. path_of xs ++ y) (sym (take_all q p (omega arith)))) Z.work);
        slot = refl;
        run = sym (append-nil (bodies_of l));
        string = ap (λ y. y ++ bytes_of l) (sym d);
        tip = refl;
        since = λ f0 h0 bs ws es S c. subst (λ y. Since f0 h0 f y bs ws [] es) v S;
      }

  -- ---- bytes of the Prefix alone: a Prefix is taken for them

  module _ (more : q < length p) (N : IsNode l) where
    one : lacking p l q ≡ 1
    one =
        let R = node_run l N in
        let most = (body_at Z).most in
        omega (arith, length-append (drop q p) (bytes_of l), length-drop q p, ap length R.1, ap length R.0)

    pub one_roomy : Roomy h prefix_kind
    one_roomy = room_first h prefix_kind ks x prefix_kind_lem Z.work.heap.lists.eight (subst (λ y. RoomFor h (prefixes y ++ ks) x) one Z.room)

    module _ {f1 : List ℕ} {s : ℕ} (T : Took f f1 h prefix_kind s) where
      abbrev place : ℕ
      place = place_from h (list_of h prefix_kind)

      took : Work E f1 (taken h prefix_kind) (under n o p ∷ xs) (slot_of l) ((path_of xs ++ p, l) ∷ ts) (body s prefix_kind place ∷ loose)
      took = work_take Z.work T

      seat : Lies (taken h prefix_kind) s prefix_kind place
      seat = lies s prefix_kind place _ took.heap (first_owns took) (omega arith) (omega arith)

      place_is : place_of f1 s ≡ place
      place_is = (entries_first f1 s prefix_kind place loose took.entries).0.place_is

      still : PrefixAt f1 o p (slot_of l)
      still = (work_above n o p xs ((path_of xs ++ p, l) ∷ ts) took).1

      pub one_entry : (1 ≤ s) × (entry_at s + 4 ≤ length f1)
      one_entry = let H = took.heap.header in let b = H.bump_in in (seat.low, omega (arith, seat.table, H.size))

      module _ {at : ℕ} (ea : at ≡ place_of f1 s) where
        pub one_tails : Longer f1 o q × (at + 128 ≤ length f1) × Elsewhere at o
        one_tails =
            let e : at ≡ place = ea ∙ place_is in
            let apart = two_apart took.heap.sound s prefix_kind place n prefix_kind o
            (λ v. omega (arith, work_sum took v, sum_cons v (body s prefix_kind place) loose, steps_under v n o p xs, sum_app v (taken h prefix_kind).owned (freed 1 (taken h prefix_kind).lists))) (omega arith) (omega arith) in
            (record { bytes = p; below = slot_of l; at = still; more = more }, omega (arith, seat.ends, took.heap.header.size), subst (λ y. Elsewhere y o) (sym e) apart)

        module _ {g : List ℕ} (M : Only f1 g at (at + 128) × ((u : List ℕ) (c : ℕ) → PrefixAt f1 o u c → PrefixAt g at (drop q u) c)) where
          one_split : Split E f g h xs n o p l ts loose q s
          one_split =
              let e : at ≡ place = ea ∙ place_is in
              let O : Only f1 g place (place + 128) = subst (λ y. Only f1 g y (y + 128)) e M.0 in
              let P : PrefixAt g place (drop q p) (slot_of l) = subst (λ y. PrefixAt g y (drop q p) (slot_of l)) e (M.1 p (slot_of l) still) in
              let v : taken h prefix_kind ≡ taken_all h (prefixes (lacking p l q)) = sym (ap (λ y. taken_all h (prefixes y)) one ∙ one_taken h) in
              let R = node_run l N in
              let W = work_path l (path_parts (path_of xs) p q) (work_write took (omega arith) (omega arith) O (omega arith) (omega arith)) in
              record {
                new = (s, place) ∷ [];
                lay = prefix s place (drop q p) l;
                many = sym one;
                work = subst (λ y. Work E g y (under n o p ∷ xs) (slot_of l) ((path_of xs ++ take q p, prefix s place (drop q p) l) ∷ ts) loose) v
                    (make_prefix (path_of xs ++ take q p) ts loose s place (drop q p) l W P (node_below (drop q p) l N));
                slot = refl;
                run = ap (λ (y : List (ℕ × ℕ)). (s, place) ∷ y) R.0 ∙ ap (λ (y : List (ℕ × ℕ)). y ++ (s, place) ∷ []) (sym R.0);
                string = refl;
                tip = refl;
                since = λ f0 h0 bs ws es S c.
                    subst (λ y. Since f0 h0 g y (body s prefix_kind place ∷ bs) ws [] es) v
                    (since_write O (λ a lo hi. omega (arith, cover_body a s prefix_kind place (omega arith) (omega arith), sum_cons (cover a) (body s prefix_kind place) bs)) (since_take prefix_kind_lem Z.work.heap S T));
              }

-- ---- what is asked, and what is told of every work

pub split_none : {f : List ℕ} {o q m c : ℕ} → m ≡ le 2 f (o + prefix_length) → m ≡ q → c ≡ le 4 f (o + prefix_child) → SplitOff f f o q c
split_none {f} {o} {q} em e ec E h xs n p l ts loose ks x Z = subst (Split E f f h xs n o p l ts loose q) (sym (ec ∙ (body_at Z).child)) (none_split Z (sym (body_at Z).long ∙ sym em ∙ e))

-- other bytes, and no Prefix below
module _ {f : List ℕ} {o q m c : ℕ} (em : m ≡ le 2 f (o + prefix_length)) (other : m ≡ q → ⊥) (ec : c ≡ le 4 f (o + prefix_child)) (bare : high_of f c ≡ 2 → ⊥) where
  module _ {E : Edition} {h : View} {xs : List Step} {n : ℕ} {p : List ℕ} {l : Lay} {ts : List (List ℕ × Lay)} {loose : List Item} {ks : List ℕ} {x : ℕ} (Z : Splitting E f h xs n o p l ts loose q ks x) where
    longer : q < length p
    longer = let s = Z.some in elim (dec_lt q (length p)) [
      | yes y ↦ y
      | no y ↦ absurd (other (omega (arith, (body_at Z).long)))
    ]

    inner : IsNode l
    inner = bare_node p l Z.hangs ((tree_stood (path_of xs ++ p) ts loose l Z.work).other (λ z. bare (ap (high_of f) (ec ∙ (body_at Z).child) ∙ z)))

  module _ (A : Splits f o q) where
    pub split_takes : Takes f prefix_kind
    split_takes = let Z = A.splitting in record { view = A.view; heap = Z.work.heap; kind = prefix_kind_lem; room = one_roomy Z (longer Z) (inner Z) }

    module _ {f1 : List ℕ} {s : ℕ} (T : (h : View) → Heap f h → Roomy h prefix_kind → Took f f1 h prefix_kind s) where
      told : {E : Edition} {h : View} {xs : List Step} {n : ℕ} {p : List ℕ} {l : Lay} {ts : List (List ℕ × Lay)} {loose : List Item} {ks : List ℕ} {x : ℕ} → Splitting E f h xs n o p l ts loose q ks x → Took f f1 h prefix_kind s
      told {h = h} Z = T h Z.work.heap (one_roomy Z (longer Z) (inner Z))

      pub split_read : (1 ≤ s) × (entry_at s + 4 ≤ length f1)
      split_read = let Z = A.splitting in one_entry Z (longer Z) (inner Z) (told Z)

      module _ {at : ℕ} (ea : at ≡ place_of f1 s) where
        pub split_tails : Longer f1 o q × (at + 128 ≤ length f1) × Elsewhere at o
        split_tails = let Z = A.splitting in one_tails Z (longer Z) (inner Z) (told Z) ea

        pub split_done : {g : List ℕ} → Only f1 g at (at + 128) × ((u : List ℕ) (c : ℕ) → PrefixAt f1 o u c → PrefixAt g at (drop q u) c) → SplitOff f g o q s
        split_done M E h xs n p l ts loose ks x Z = one_split Z (longer Z) (inner Z) (told Z) ea M
