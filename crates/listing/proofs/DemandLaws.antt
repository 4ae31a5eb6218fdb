-- Demand 1 of a listing, and that its promise settles everything: two calls of one good frame give and leave the same. Assumes nothing.
use Prim.Native.Nat.{ℕ, suc, ◌+◌, ◌-◌, ◌<◌}
use native.Mathlib.Omega.{arith}
use mathlib.Core.Path.{◌≡◌, refl, sym, subst, ◌∙◌}
use mathlib.Core.List.{List, [], ◌∷◌}
use mathlib.Core.Option.{Option, none, some}
use mathlib.Core.Logic.{◌⊎◌, inl, inr, ⊎_elim, ◌≢◌}
use lib.ListN.{length}
use borrow.Author.Tests.{ne_eqb}
use Rattle.model.specs.Edition.{Edition, edition_of}
use Rattle.model.specs.Records.{records_of}
use Rattle.model.specs.State.{State}
use Rattle.model.specs.Frame.{Stands, Good}
use Rattle.model.proofs.StringLaws.{ltb_cases, leb_cases, clash}
use Rattle.model.proofs.UniqueLaws.{stands_unique}
use Rattle.demands.specs.Words.{Refusal, Ground, key_length, key_zero}
use Rattle.demands.proofs.FirstLaws.{Given, frame_first, KeyGiven, key_given}
use Rattle.listing.specs.Listing.{prefix_limit, names, after_start, fitting, page, start_fault, listing, ListPromise}
use Rattle.listing.specs.Demand.{names_length, start_zero, FirstTooLong, buffer_small, ListDemand1}

refused_not0 : (n : ℕ) → Refusal n → n ≢ 0
refused_not0 n r e = clash (let z = rw e at r in cc)

-- a page of what is to be listed: 10, or 0
page_number : (room : ℕ) (es : List (List ℕ)) → (FirstTooLong room es × ((page room es).number ≡ 10)) ⊎ ((FirstTooLong room es → ⊥) × ((page room es).number ≡ 0))
page_number room [] = inr (λ x. x, refl)
page_number room (e ∷ es) = leb_cases (2 + length e) room
    (λ t o. inr (λ x. omega arith, rw (t, ne_eqb (suc (fitting (room - (2 + length e)) es)) 0 (λ z. omega arith))))
    (λ t o. inl (o, rw t))

-- of an edition whose keys' faults are 3 and 4
module _ {E : Edition} (key_given : KeyGiven E) where
  module _ (f p : List ℕ) (d : Option ℕ) (b : List ℕ) (g : Good E f) where
    abbrev left : Option (List ℕ) → List (List ℕ)
    left s = after_start s (names d p (records_of g.0.tree))

    small_given : (s : Option (List ℕ)) (n : ℕ) → n ≡ (page (length b) (left s)).number → Given (buffer_small E f p s d b ∷ []) (0 ∷ []) n
    small_given s n e = go (page_number (length b) (left s))
      where
        same : (st : State) → Stands E f st → FirstTooLong (length b) (after_start s (names d p (records_of st.tree))) → FirstTooLong (length b) (left s)
        same st S h = subst (λ (t : State). FirstTooLong (length b) (after_start s (names d p (records_of t.tree)))) (stands_unique E f st g.0 S g.1) h

        go : (FirstTooLong (length b) (left s) × ((page (length b) (left s)).number ≡ 10)) ⊎ ((FirstTooLong (length b) (left s) → ⊥) × ((page (length b) (left s)).number ≡ 0))
            → Given (buffer_small E f p s d b ∷ []) (0 ∷ []) n
        go (inl h) = inl ((g.0, g.1, h.0), e ∙ h.1)
        go (inr h) = inr (λ x. h.0 (same x.0 x.1 x.2), inl (e ∙ h.1))

    -- 3 and 4 of a start key, and 3 of a prefix besides
    widen : (k : List ℕ) (n : ℕ) (gs : List Ground) → (prefix_limit E < length p → ⊥) → Given (key_length E k ∷ key_zero E k ∷ gs) (0 ∷ []) n → Given (names_length E p (some k) ∷ start_zero E (some k) ∷ gs) (0 ∷ []) n
    widen k n gs x (inl h) = inl (inr h.0, h.1)
    widen k n gs x (inr h) = inr (λ y. ⊎_elim x h.0 y, h.1)

    start_given : (s : Option (List ℕ)) (n : ℕ) → (prefix_limit E < length p → ⊥) → (start_fault E s ≢ 0 → n ≡ start_fault E s) → (start_fault E s ≡ 0 → n ≡ (page (length b) (left s)).number)
        → Given (names_length E p s ∷ start_zero E s ∷ buffer_small E f p s d b ∷ []) (0 ∷ []) n
    start_given none n x bad good = inr (λ y. ⊎_elim x (λ z. z) y, inr (λ y. y, small_given none n (good refl)))
    start_given (some k) n x bad good = widen k n (buffer_small E f p (some k) d b ∷ []) x (key_given k n (buffer_small E f p (some k) d b ∷ []) (0 ∷ []) bad (λ e. small_given (some k) n (good e)))

    list_given : (s : Option (List ℕ)) (n : ℕ) → n ≡ (listing E (records_of g.0.tree) p s d (length b)).number → Given (names_length E p s ∷ start_zero E s ∷ buffer_small E f p s d b ∷ []) (0 ∷ []) n
    list_given s n e = ltb_cases (prefix_limit E) (length p)
        (λ t o. inl (inl o, e ∙ rw t))
        (λ t o. start_given s n (λ x. omega arith)
        (λ q. e ∙ rw (t, ne_eqb (start_fault E s) 0 q))
        (λ q. e ∙ rw (t, q)))

  pub list_demand1 : ListDemand1 E
  list_demand1 = record {
    list = λ f p s d b n count more b' P. (
      frame_first E f (names_length E p s ∷ start_zero E s ∷ buffer_small E f p s d b ∷ []) (0 ∷ []) n refl refl P.told (λ g. list_given f p d b g s n (P.listed g.0 g.1).number_is),
      λ r. P.refused (refused_not0 n r),
    );
  }

pub list_demand : (ed : ℕ) → ListDemand1 (edition_of ed)
list_demand ed = list_demand1 (key_given ed)

-- ---- the promise settles everything

-- so every listing that gives or leaves anything else of a good frame breaks it: a group twice, one that is lost, more where none remain
pub list_settled : {E : Edition} {f p : List ℕ} {s : Option (List ℕ)} {d : Option ℕ} {b : List ℕ} {n count more : ℕ} {b' : List ℕ} {n' count' more' : ℕ} {b'' : List ℕ}
    → Good E f → ListPromise E f p s d b n count more b' → ListPromise E f p s d b n' count' more' b'' → (n ≡ n') × (count ≡ count') × (more ≡ more') × (b' ≡ b'')
list_settled g P Q =
    let x = P.listed g.0 g.1 in let y = Q.listed g.0 g.1 in
    (x.number_is ∙ sym y.number_is, x.count_is ∙ sym y.count_is, x.more_is ∙ sym y.more_is, x.buffer ∙ sym y.buffer)
