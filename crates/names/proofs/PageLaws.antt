-- The first entry of a listing by where its start key stands to the prefix, and a page as it fills: one law for each exit of the code. Assumes nothing.
use Prim.Native.Nat.{ℕ, ◌+◌, ◌-◌, ◌<◌, ◌≤◌}
use native.Mathlib.Omega.{arith}
use mathlib.Core.Path.{◌≡◌, refl, sym, ap, subst, ◌∙◌}
use mathlib.Core.List.{List, [], ◌∷◌, ◌++◌}
use mathlib.Core.Bool.{true, false}
use mathlib.Core.Option.{Option, none, some}
use Rattle.std.specs.Prelude.{Option as Optional, Some, None, Ok, Err}
use Rattle.std.specs.List.{starts_with}
use Rattle.std.specs.Ordering.{ordering_index}
use Rattle.std.proofs.Common.{Ordering, Less, Equal, Greater, is_gt}
use mathlib.Core.Logic.{inl, inr}
use lib.ListN.{length, take, drop, length-append, length-take, length-drop}
use lib.Seq.{take_all}
use lib.Dec.{eqb, lit≤}
use Rattle.answers.specs.declared.Refusal.TheVariants as refusal
use Rattle.model.specs.Edition.{Edition}
use Rattle.model.specs.Records.{Record, records, Ascending}
use Rattle.model.specs.Image.{digits}
use Rattle.model.specs.Frame.{Lay, art}
use Rattle.model.proofs.StringLaws.{bool_cases, clash}
use Rattle.listing.specs.Listing.{begins, entry_for, names, after_start, laid, page, Gave}
use Rattle.listing.specs.Seek.{weigh}
use Rattle.listing.specs.Bound.{tail_up, tail_for, above}
use Rattle.listing.proofs.PageLaws.{above_prefix, above_start, below_prefix, above_none, start_all, start_none, Filled, fill_start, fill_long, fill_end, fill_more, fill_ten, fill_one}
use Rattle.seek.specs.Sub.{Sub}
use Rattle.seek.specs.Seek.{Tail}
use Rattle.names.specs.declared.entry.Cut.{Cut}
use Rattle.names.specs.declared.entry.Entry.{Entry}
use Rattle.names.specs.Entry.{CutAt, Heads, Next, EntryFrom, StartGood, FirstEntry, PageAt}
use Rattle.names.proofs.EditionLaws.{Naming}
use Rattle.names.proofs.CutLaws.{starts_is, begins_self, entry_cut, entry_twice}
use Rattle.names.proofs.EntryLaws.{of_sub, tree_records}

-- ---- the first entry

greater : (o : Ordering) → is_gt o ≡ true → ordering_index o ≡ 2
greater Less q = clash (cc)
greater Equal q = clash (cc)
greater Greater q = refl

not_greater : (o : Ordering) → is_gt o ≡ false → ordering_index o ≡ 2 → ⊥
not_greater Less q e = omega arith
not_greater Equal q e = omega arith
not_greater Greater q e = clash (cc)

module _ {E : Edition} (N : Naming E) {f : List ℕ} {root : ℕ} (p : List ℕ) (d : Option ℕ) where
  -- no start key
  pub first_free : {r : Optional Entry} → EntryFrom E f root p d p 0 r → FirstEntry E f root p none d r
  first_free {r} H path l T q = H path l T q (begins_self p) none (above_prefix d p (records (art l)))

  module _ (s : List ℕ) (S : Sub E f root 0) where
    abbrev rs : List Record
    rs = records (art S.lay)

    asc : Ascending rs
    asc = (tree_records N.lawful f S.path S.lay S.bytes S.tree).0

    -- of the tree itself
    first_of_tree : {r : Optional Entry} → Next E f p d rs (after_start (some s) (names d p rs)) r → FirstEntry E f root p (some s) d r
    first_of_tree {r} X = of_sub S (λ (l : Lay). Next E f p d (records (art l)) (after_start (some s) (names d p (records (art l)))) r) X

    next_as : (z : Option (List ℕ)) {r : Optional Entry} → after_start z (names d p rs) ≡ after_start (some s) (names d p rs) → Next E f p d rs (after_start z (names d p rs)) r → Next E f p d rs (after_start (some s) (names d p rs)) r
    next_as z {r} q X = subst (λ (x : List (List ℕ)). Next E f p d rs x r) q X

    -- it begins with the prefix
    pub first_begins : {c : Cut} {r : Optional Entry} → starts_with eqb s p ≡ true → CutAt s (length p) d c → {x : List ℕ} → EntryFrom E f root p d x c.tail r → x ≡ take c.long s → FirstEntry E f root p (some s) d r
    first_begins {c} {r} t C {x} H ex =
        let b : begins p s ≡ true = sym (starts_is p s) ∙ t in
        let z = entry_cut d p s b C in
        let F = tree_records N.lawful f S.path S.lay S.bytes S.tree in
        let W : names d p (above x c.tail rs) ≡ after_start (some s) (names d p rs) = rw (ex, z.0, z.1) (above_start E d p s rs b F.0 F.1) in
        let B : begins p x ≡ true = rw (ex, z.0) (entry_twice d p s b).0 in
        first_of_tree (H S.path S.lay S.tree S.slot_is B (some s) W)

    module _ (t : starts_with eqb s p ≡ false) (o : Ordering) (eo : ordering_index o ≡ weigh (drop 0 p) 0 (take (length s) (drop 0 s))) where
      past : begins p s ≡ false
      past = sym (starts_is p s) ∙ t

      weighs : ordering_index o ≡ weigh p 0 s
      weighs = eo ∙ ap (weigh p 0) (take_all (length s) s (omega arith))

      -- it stands above all that begins with the prefix
      pub first_above : is_gt o ≡ true → FirstEntry E f root p (some s) d None
      first_above q = first_of_tree (record { is = start_none d p s (λ k m. above_none d p s past (sym weighs ∙ greater o q) k m) rs asc })

      -- or below
      pub first_below : {r : Optional Entry} → is_gt o ≡ false → EntryFrom E f root p d p 0 r → FirstEntry E f root p (some s) d r
      first_below {r} q H =
          let W = start_all d p s (λ k m. below_prefix d p s past (λ y. not_greater o q (weighs ∙ y)) k m) rs asc in
          first_of_tree (next_as none (sym W) (H S.path S.lay S.tree S.slot_is (begins_self p) none (above_prefix d p rs)))

-- a start key is short
pub start_short : {E : Edition} → Naming E → (s : List ℕ) → StartGood E (some s) → length s ≤ 255
start_short {E} N s h = N.most s h

-- ---- a page

-- the tail of an entry's bound
up_tail : (d : Option ℕ) (k : List ℕ) → Tail (tail_up d k)
up_tail none k = inl (lit≤ tt)
up_tail (some c) [] = inl (lit≤ tt)
up_tail (some c) (x ∷ k) = bool_cases (eqb x c) (λ t. rw t (inr refl)) (λ t. rw t (up_tail (some c) k))

pub cut_tail : {k : List ℕ} {from : ℕ} {d : Option ℕ} {r : Cut} → CutAt k from d r → Tail r.tail
cut_tail {k} {from} {d} C = rw C.tail (up_tail d (drop from k))

own_tail : (d : Option ℕ) (p k : List ℕ) → Tail (tail_for d p k)
own_tail d [] k = up_tail d k
own_tail d (a ∷ p) [] = inl (lit≤ tt)
own_tail d (a ∷ p) (x ∷ k) = own_tail d p k

-- an entry takes more than one byte
count_laid : (xs : List (List ℕ)) → length xs ≤ length (laid xs)
count_laid [] = omega arith
count_laid (x ∷ xs) = let on = count_laid xs in omega (arith, length-append x (laid xs))

-- `count` entries are written, in `used` bytes, and e is the next, if one is left
pub record Paging (E : Edition) (f : List ℕ) (root : ℕ) (p : List ℕ) (s : Option (List ℕ)) (d : Option ℕ) (b : List ℕ) (count used : ℕ) (e : Optional Entry) (b' : List ℕ) : Type 0 where
  pub of : Naming E
  pub sub : Sub E f root 0
  pub left : List (List ℕ)
  pub filled : Filled (after_start s (names d p (records (art sub.lay)))) b count used b' left
  pub next : Next E f p d (records (art sub.lay)) left e

pub paging_start : {E : Edition} {f : List ℕ} {root : ℕ} {p : List ℕ} {s : Option (List ℕ)} {d : Option ℕ} {e : Optional Entry} (b : List ℕ) → Naming E → Sub E f root 0 → FirstEntry E f root p s d e → Paging E f root p s d b 0 0 e b
paging_start {p = p} {s = s} {d = d} b N S F =
    record {
      of = N;
      sub = S;
      left = after_start s (names d p (records (art S.lay)));
      filled = fill_start (after_start s (names d p (records (art S.lay)))) b;
      next = F S.path S.lay S.tree S.slot_is;
    }

abbrev whole : Option (List ℕ) → Option ℕ → List ℕ → Lay → List (List ℕ)
whole s d p l = after_start s (names d p (records (art l)))

module _ {E : Edition} {f : List ℕ} {root : ℕ} {p : List ℕ} {s : Option (List ℕ)} {d : Option ℕ} {b : List ℕ} {count used : ℕ} {b' : List ℕ} where
  module _ {e : Optional Entry} (P : Paging E f root p s d b count used e b') where
    pub paging_long : length b' ≡ length b
    paging_long = fill_long P.filled

    pub paging_count : count ≤ used
    paging_count = let c = P.filled.counted in let l = P.filled.long in let m = count_laid P.filled.done in omega arith

    pub paging_room : used ≤ length b'
    paging_room = let i = P.filled.inside in let l = paging_long in omega arith

  -- no entry is left
  pub paging_end : Paging E f root p s d b count used None b' → PageAt E f root p s d b (Ok (record { count = count; more = false })) b'
  paging_end P = of_sub P.sub (λ (l : Lay). Gave (page (length b) (whole s d p l)) b 0 count 0 b') (fill_end P.filled P.next.is)

  module _ {e : Entry} (P : Paging E f root p s d b count used (Some e) b') where
    pub head : Heads E f p d (records (art P.sub.lay)) P.left e
    head = P.next.is

    pub head_long : length head.text ≡ e.long
    head_long = let i = head.inside in sym (ap length head.is) ∙ simp (length-take, length-drop) (omega arith)

    pub head_tail : Tail e.tail
    head_tail = rw head.tail (own_tail d p head.text)

    pub head_part : (m : ℕ) → m ≡ e.long → take m (drop e.at f) ≡ head.text
    head_part m q = ap (λ (n : ℕ). take n (drop e.at f)) q ∙ head.is

    pub head_most : (m : ℕ) → m ≡ e.long → length (take m (drop e.at f)) ≤ 255
    head_most m q = rw (head_part m q) (P.of.most head.text head.legal.passes)

    -- the next one does not fit
    module _ (o : length b' - used < 2 + e.long) where
      over : length b < used + (2 + length head.text)
      over = let i = paging_long P in let l = head_long in let r = paging_room P in omega arith

      pub paging_ten : count ≡ 0 → PageAt E f root p s d b (Err refusal.Buffer) b'
      paging_ten c = of_sub P.sub (λ (l : Lay). Gave (page (length b) (whole s d p l)) b 10 0 0 b') (fill_ten P.filled head.first over c)

      pub paging_more : (count ≡ 0 → ⊥) → PageAt E f root p s d b (Ok (record { count = count; more = true })) b'
      paging_more c = of_sub P.sub (λ (l : Lay). Gave (page (length b) (whole s d p l)) b 0 count 1 b') (fill_more P.filled head.first over (omega arith))

    -- it is written, and the next one found from its own bound on
    pub paging_on : {b'' x : List ℕ} {e' : Optional Entry} → used + (2 + e.long) ≤ length b' → x ≡ head.text → b'' ≡ take used b' ++ ((digits 2 (length x) ++ x) ++ drop (used + (2 + length x)) b')
        → EntryFrom E f root p d x e.tail e' → Paging E f root p s d b (count + 1) (used + (2 + e.long)) e' b''
    paging_on {b''} {x} {e'} h q w H =
        let i = paging_long P in let l = head_long in
        let rs = records (art P.sub.lay) in
        let F = fill_one P.filled head.first {b'' = b''} (omega arith) (rw q at w) in
        let T = tree_records P.of.lawful f P.sub.path P.sub.lay P.sub.bytes P.sub.tree in
        let W : names d p (above x e.tail rs) ≡ after_start (some head.text) (names d p rs)
        = ap (λ (y : List ℕ). names d p (above y e.tail rs)) (q ∙ sym head.own) ∙ ap (λ (n : ℕ). names d p (above (entry_for d p head.text) n rs)) head.tail
        ∙ above_start E d p head.text rs head.matches T.0 T.1 in
        record {
          of = P.of;
          sub = P.sub;
          left = after_start (some head.text) (names d p rs);
          filled = subst (λ (n : ℕ). Filled (whole s d p P.sub.lay) b (count + 1) (used + (2 + n)) b'' (after_start (some head.text) (names d p rs))) l F;
          next = H P.sub.path P.sub.lay P.sub.tree P.sub.slot_is (rw q head.matches) (some head.text) W;
        }
