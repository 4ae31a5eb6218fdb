-- The ends of the public call: refused by the check, for the prefix, for the start key; no record; a page. Assumes nothing.
use Prim.Native.Nat.{ℕ, ◌<◌, ◌≤◌}
use native.Mathlib.Omega.{arith}
use mathlib.Core.Path.{◌≡◌, refl, sym, ap, ◌∙◌}
use mathlib.Core.List.{List, [], ◌∷◌}
use mathlib.Core.Bool.{Bool, true, false}
use mathlib.Core.Option.{Option, none, some}
use lib.ListN.{length}
use lib.Dec.{eqb}
use Rattle.std.specs.Borrow.{Bor}
use Rattle.std.specs.Bool.{then_some}
use Rattle.std.specs.Prelude.{Result, Ok, Err}
use Rattle.std.specs.Result.{OkIff, IsErrAnd, result_ok}
use borrow.Author.Tests.{lt-ltb, le-ltb, ne_eqb}
use Rattle.answers.specs.declared.Page.{Page}
use Rattle.answers.specs.declared.Refusal.{Refusal}
use Rattle.answers.specs.Number.{refusal_number, done_number, list_count, list_more}
use Rattle.answers.proofs.NumberLaws.{never_zero}
use Rattle.layout.specs.Number.{le}
use Rattle.layout.specs.Place.{at_r, at_root}
use Rattle.model.specs.Edition.{Edition}
use Rattle.model.specs.Tree.{Art}
use Rattle.model.specs.Records.{Record, records_of}
use Rattle.model.specs.State.{State}
use Rattle.model.specs.Frame.{Lay, Root, bare, tree, slot_of, art, root_art, root_slot, RootAt, Tree, Good, Stands}
use Rattle.model.specs.Promise.{Told, CheckPromise}
use Rattle.model.proofs.StringLaws.{bool_cases}
use Rattle.model.proofs.StandsGood.{stands_heads}
use Rattle.model.proofs.PackStands.{empty_none}
use Rattle.listing.specs.Listing.{names, after_start, fitting, Listed, refused_as, written, page, prefix_limit, prefix_fault, start_of, delimiter_of, start_fault, listing, Gave, ListPromise}
use Rattle.inside.specs.Inside.{Inside}
use Rattle.inside.proofs.InsideLaws.{stands_inside}
use Rattle.seek.specs.Sub.{Sub}
use Rattle.names.specs.Entry.{maybe, started, PageAt}
use Rattle.names.proofs.EditionLaws.{Naming}

-- ---- what is asked for, as a caller says it

pub start_is : (given : Bool) (s : Bor (List ℕ)) → started (then_some given s) ≡ start_of given s.now
start_is true s = refl
start_is false s = refl

pub delimiter_is : {X : Type 0} (d : ℕ) (r : Result ℕ X) → OkIff r (d < 256) d → maybe (result_ok r) ≡ delimiter_of d
delimiter_is d (Ok x) h = let l = h.0 in let e = h.1 in rw (e, lt-ltb d 256 l) refl
delimiter_is d (Err e) h = rw (le-ltb d 256 (omega arith)) refl

-- the tree of a frame with a record
record RootTree (E : Edition) (f : List ℕ) (st : State) (S : Stands E f st) : Type 0 where
  pub lay : Lay
  pub is : S.root ≡ tree lay
  pub stands : Tree E f [] lay
  pub inside : Inside f lay
  pub tree_is : st.tree ≡ some (art lay)

root_tree : {E : Edition} (N : Naming E) (f : List ℕ) (st : State) (S : Stands E f st) → 1 ≤ st.R → RootTree E f st S
unfolding RootAt
root_tree {E} N f st S h = go S.root refl
  where
    tree_is : st.tree ≡ root_art S.root
    tree_is = ap (λ (x : State). x.tree) S.state

    go : (r : Root) → S.root ≡ r → RootTree E f st S
    go (bare s o) q = let e = (empty_none N.lawful f st S).1 (tree_is ∙ ap root_art q) in absurd (omega arith)
    go (tree l) q = record { lay = l; is = q; stands = rw q at S.root_at; inside = stands_inside E f st S l q; tree_is = tree_is ∙ ap root_art q }

-- ---- what the check tells of a good frame

module _ {E : Edition} (N : Naming E) {f : List ℕ} (promised : CheckPromise E f 0) where
  good : Good E f
  good = promised.told.good (λ x. omega arith) (λ x. omega arith)

  told_good : (k : ℕ) → Told E f k
  told_good k = record { length1 = λ x. absurd (omega (arith, promised.told.length1 x)); bad2 = λ l x. absurd (x good); good = λ x y. good }

  module _ {records : ℕ} (er : records ≡ le 4 f at_r) (some_records : records ≡ 0 → ⊥) {root : ℕ} (eo : root ≡ le 2 f at_root) where
    rooted : (st : State) (S : Stands E f st) → RootTree E f st S
    rooted st S = let H = stands_heads E f st S in let r = er ∙ H.records_at in root_tree N f st S (omega arith)

    slot_is : (st : State) (S : Stands E f st) → slot_of (rooted st S).lay ≡ root
    slot_is st S = sym (eo ∙ S.heap.header.root_at ∙ S.root_is ∙ ap root_slot (rooted st S).is)

    pub list_sub : Sub E f root 0
    list_sub =
        let R = rooted good.0 good.1 in
        record { lawful = N.lawful; lay = R.lay; path = []; tree = R.stands; slot_is = slot_is good.0 good.1; inside = R.inside; bytes = good.1.bytes; deep = refl; short = omega arith }

-- ---- the ends of the call

-- a refusal that is handed on
err_is : (x : Refusal) (r : Result Page Refusal) → IsErrAnd r (λ y. y ≡ x) → r ≡ Err x
err_is x (Ok a) h = absurd h
err_is x (Err y) h = ap (λ (z : Refusal). Err z) h

-- the check refuses
pub list_unchecked : {E : Edition} {f : List ℕ} (p : List ℕ) (s : Option (List ℕ)) (d : Option ℕ) (b : List ℕ) (x : Refusal) (r : Result Page Refusal) → IsErrAnd r (λ y. y ≡ x) → CheckPromise E f (refusal_number x)
    → ListPromise E f p s d b (done_number r) (list_count r) (list_more r) b
list_unchecked p s d b x r h P = rw (err_is x r h) (record { told = P.told; refused = λ z. (refl, refl, refl); listed = λ st S. absurd (never_zero x (P.good0 (st, S))) })

module _ {E : Edition} (N : Naming E) {f : List ℕ} (promised : CheckPromise E f 0) (p : List ℕ) (s : Option (List ℕ)) (d : Option ℕ) (b : List ℕ) where
  gave_refused : (l : Listed) (k : ℕ) → l ≡ refused_as k → Gave l b k 0 0 b
  gave_refused l k q = rw q (record { number_is = refl; count_is = refl; more_is = refl; buffer = refl })

  refused_as_lem : (k : ℕ) → ((st : State) → listing E (records_of st.tree) p s d (length b) ≡ refused_as k) → ListPromise E f p s d b k 0 0 b
  refused_as_lem k q = record { told = told_good N promised k; refused = λ x. (refl, refl, refl); listed = λ st S. gave_refused (listing E (records_of st.tree) p s d (length b)) k (q st) }

  module _ (short : length p ≤ prefix_limit E) where
    prefix_passes : prefix_fault E p ≡ 0
    prefix_passes = rw (le-ltb (prefix_limit E) (length p) short)

    -- the start key
    pub list_start : (x : Refusal) (r : Result Page Refusal) → IsErrAnd r (λ y. y ≡ x) → refusal_number x ≡ start_fault E s → ListPromise E f p s d b (done_number r) (list_count r) (list_more r) b
    list_start x r h q = rw (err_is x r h) (refused_as_lem (refusal_number x) (λ st. rw (prefix_passes, ← q, ne_eqb (refusal_number x) 0 (never_zero x))))

    module _ (start_good : 0 ≡ start_fault E s) where
      is_page : (rs : List Record) → listing E rs p s d (length b) ≡ page (length b) (after_start s (names d p rs))
      is_page rs = rw (prefix_passes, ← start_good)

      -- no record
      pub list_empty : {records : ℕ} → records ≡ le 4 f at_r → records ≡ 0 → ListPromise E f p s d b 0 0 0 b
      list_empty er q =
          record {
            told = told_good N promised 0;
            refused = λ x. absurd (x refl);
            listed = λ st S.
                let H = stands_heads E f st S in
                let t = (empty_none N.lawful f st S).0 (sym H.records_at ∙ sym er ∙ q) in
                empty s (ap (λ (x : Option Art). listing E (records_of x) p s d (length b)) t ∙ is_page []);
          }
        where
          empty : {l : Listed} (s : Option (List ℕ)) → l ≡ page (length b) (after_start s []) → Gave l b 0 0 0 b
          empty none w = rw w (record { number_is = refl; count_is = refl; more_is = refl; buffer = refl })
          empty (some k) w = rw w (record { number_is = refl; count_is = refl; more_is = refl; buffer = refl })

      module _ {records : ℕ} (er : records ≡ le 4 f at_r) (some_records : records ≡ 0 → ⊥) {root : ℕ} (eo : root ≡ le 2 f at_root) where
        -- a page
        pub list_page : (r : Result Page Refusal) {b' : List ℕ} → PageAt E f root p s d b r b' → ListPromise E f p s d b (done_number r) (list_count r) (list_more r) b'
        list_page r {b'} P =
            record {
              told = told_good N promised (done_number r);
              refused = λ x. let g = good N promised in kept (after_start s (names d p (records_of g.0.tree))) (paged g.0 g.1) x;
              listed = λ st S. rw (is_page (records_of st.tree)) (paged st S);
            }
          where
            paged : (st : State) (S : Stands E f st) → Gave (page (length b) (after_start s (names d p (records_of st.tree)))) b (done_number r) (list_count r) (list_more r) b'
            paged st S = let R = rooted N promised er some_records eo st S in rw R.tree_is (P [] R.lay R.stands (slot_is N promised er some_records eo st S))

            kept : (es : List (List ℕ)) {m count more : ℕ} → Gave (page (length b) es) b m count more b' → (m ≡ 0 → ⊥) → (count ≡ 0) × (more ≡ 0) × (b' ≡ b)
            kept [] G x = absurd (x G.number_is)
            kept (y ∷ es) {m} {count} {more} G x = bool_cases (eqb (fitting (length b) (y ∷ es)) 0)
                (λ t. let H : Gave (refused_as 10) b m count more b' = rw t at G in (H.count_is, H.more_is, H.buffer))
                (λ t. let H : Gave (written (fitting (length b) (y ∷ es)) (y ∷ es)) b m count more b' = rw t at G in absurd (x H.number_is))
