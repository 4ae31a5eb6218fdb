-- Entries and bytes that stand packed: made of an entry and a body, joined, changed in a body, and the room that is left behind them.
-- Assumes nothing.
use Prim.Native.Nat.{ℕ, ◌+◌, ◌≤◌}
use mathlib.Core.Path.{◌≡◌, refl, sym, ◌∙◌}
use mathlib.Core.List.{List, [], ◌∷◌, ◌++◌}
use mathlib.Core.Logic.{inl, inr}
use native.Mathlib.Omega.{arith}
use lib.ListN.{length, length-append}
use Rattle.layout.specs.Place.{entry_at}
use Rattle.model.specs.Image.{digits, numbers}
use Rattle.model.specs.Body.{Has}
use Rattle.model.proofs.TextLaws.{has_at, has_right, length_numbers}
use Rattle.moves.specs.Moved.{Only}
use Rattle.pack_body.proofs.HasLaws.{has_join, has_same, has_only, entries_join}
use Rattle.pack.specs.declared.bodies.Next.{Next}
use Rattle.pack.specs.Laid.{Room, Laid}

-- an entry and a body
pub laid_made : {o o' o'' : List ℕ} (e : ℕ) (bs : List ℕ) (at r : Next) → entry_at (at.slot + 1) ≤ at.place → Only o o' (entry_at at.slot) (entry_at at.slot + 4)
    → Has o' (entry_at at.slot) (digits 4 e) → Only o' o'' at.place (at.place + length bs) → Has o'' at.place bs → r.slot ≡ at.slot + 1 → r.place ≡ at.place + length bs
    → Laid (e ∷ []) bs at o o'' r
laid_made {o} {o'} {o''} e bs at r h E K F H p q =
    let es : List ℕ = e ∷ [] in
    record {
      slot_is = p;
      place_is = q;
      table = has_only F (numbers 4 es) (inl (omega arith)) K;
      text = H;
      long = F.size ∙ E.size;
      below = λ a l. F.below a (omega arith) ∙ E.below a l;
      between = λ a k l. F.below a l ∙ E.above a (omega arith);
      above = λ a l. F.above a l ∙ E.above a (omega arith);
    }

-- the same entries and bytes
pub laid_as : {es fs bs cs : List ℕ} {at r : Next} {o o' : List ℕ} → es ≡ fs → bs ≡ cs → Laid es bs at o o' r → Laid fs cs at o o' r
laid_as e d L = rw (sym e, sym d) L

-- more entries and bytes behind them
pub laid_join : {es bs fs cs : List ℕ} {at r q : Next} {o o' o'' : List ℕ} → entry_at (at.slot + (length es + length fs)) ≤ at.place → Laid es bs at o o' r → Laid fs cs r o' o'' q
    → Laid (es ++ fs) (bs ++ cs) at o o'' q
laid_join {es} {bs} {fs} {cs} {at} {r} {q} {o} {o'} {o''} h X Y =
    let m = length-append es fs in
    let n = length-append bs cs in
    let w = length_numbers es in
    let a1 = X.slot_is in let a2 = X.place_is in let b1 = Y.slot_is in let b2 = Y.place_is in
    record {
      slot_is = omega arith;
      place_is = omega arith;
      table = entries_join o'' at.slot es fs (length es) refl (has_same (numbers 4 es) Y.long (λ a l k. Y.below a (omega arith)) X.table) (has_at (entry_at (at.slot + length es)) (numbers 4 fs) (omega arith) Y.table);
      text = has_join bs cs (length bs) refl (has_same bs Y.long (λ a l k. Y.between a (omega arith) (omega arith)) X.text) (has_at (at.place + length bs) cs (omega arith) Y.text);
      long = Y.long ∙ X.long;
      below = λ a l. Y.below a (omega arith) ∙ X.below a l;
      between = λ a l k. Y.between a (omega arith) (omega arith) ∙ X.between a (omega arith) k;
      above = λ a l. Y.above a (omega arith) ∙ X.above a (omega arith);
    }

-- the first of the bytes are written anew
pub laid_swap : {es : List ℕ} {at r : Next} {o o' o'' : List ℕ} (xs ys ds : List ℕ) → entry_at (at.slot + length es) ≤ at.place → length ys ≡ length xs → Laid es (xs ++ ds) at o o' r
    → Only o' o'' at.place (at.place + length xs) → Has o'' at.place ys → Laid es (ys ++ ds) at o o'' r
laid_swap {es} {at} {r} {o} {o'} {o''} xs ys ds h e X O H =
    let n = length-append xs ds in
    let k = length-append ys ds in
    let w = length_numbers es in
    let p = X.place_is in
    record {
      slot_is = X.slot_is;
      place_is = omega arith;
      table = has_only O (numbers 4 es) (inl (omega arith)) X.table;
      text = has_join ys ds (length xs) e H (has_only O ds (inr (omega arith)) (has_right xs ds (length xs) refl X.text));
      long = O.size ∙ X.long;
      below = λ a l. O.below a (omega arith) ∙ X.below a l;
      between = λ a l m. O.below a m ∙ X.between a l m;
      above = λ a l. O.above a (omega arith) ∙ X.above a (omega arith);
    }

-- ---- room

-- for the first of it
pub room_first : {n n' m m' : ℕ} {at : Next} {o : List ℕ} → n ≤ n' → m ≤ m' → Room n' m' at o → Room n m at o
room_first h g R =
    let t = R.table in let f = R.fits in
    record { first = R.first; table = omega arith; fits = omega arith; limit = R.limit; zeros = λ a l k. R.zeros a l (omega arith) }

-- for what is left
pub room_rest : {n m n' m' : ℕ} {es bs : List ℕ} {at r : Next} {o o' : List ℕ} → n' + length es ≤ n → m' + length bs ≤ m → Room n m at o → Laid es bs at o o' r → Room n' m' r o'
room_rest {at = at} h g R L =
    let t = R.table in let f = R.fits in let z = R.first in let l = R.limit in
    let s = L.slot_is in let p = L.place_is in let w = L.long in
    record { first = omega arith; table = omega arith; fits = omega arith; limit = omega arith; zeros = λ a x y. L.above a (omega arith) ∙ R.zeros a (omega arith) (omega arith) }

-- after a write below it
pub room_only : {n m lo hi : ℕ} {at : Next} {o o' : List ℕ} → hi ≤ at.place → Room n m at o → Only o o' lo hi → Room n m at o'
room_only h R O =
    let t = R.table in let f = R.fits in let l = R.limit in let w = O.size in
    record { first = R.first; table = R.table; fits = omega arith; limit = omega arith; zeros = λ a x y. O.above a (omega arith) ∙ R.zeros a x y }
