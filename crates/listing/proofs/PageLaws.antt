-- A listing by seeks: the first key at or above a bound gives the next entry, the entry's own bound what is left behind it, and a key that does not
-- match ends the listing. Assumes nothing.
use Prim.Native.Nat.{ℕ, ◌+◌, ◌-◌, ◌<◌, ◌≤◌}
use native.Mathlib.Omega.{arith}
use mathlib.Core.Path.{◌≡◌, refl, ap, sym, ◌∙◌}
use mathlib.Core.List.{List, [], ◌∷◌, ◌++◌, append_assoc, append-nil}
use mathlib.Core.Bool.{true, false}
use mathlib.Core.Option.{Option, none, some}
use mathlib.Core.Logic.{inl, inr}
use lib.ListN.{length, take, drop, length-append, length-drop}
use lib.Seq.{take_at, drop_at, drop-drop}
use lib.Dec.{leb}
use borrow.Author.Tests.{lt-ltb, le-ltb, le-leb, eq-eqb, ne_eqb}
use Rattle.model.specs.Strings.{pick, same, before}
use Rattle.model.specs.Edition.{Edition, Legal}
use Rattle.model.specs.Records.{Record, AllKeys, Ahead, Ascending}
use Rattle.model.specs.Image.{digits}
use Rattle.model.proofs.StringLaws.{bool_cases, eqb_cases, ltb_cases, leb_cases, clash, same_true, before_trans}
use Rattle.listing.specs.Listing.{begins, entry_for, add_name, names, after_start, fitting, laid, Listed, refused_as, page, Gave}
use Rattle.listing.specs.Seek.{Leafy, weigh, reach, first_from}
use Rattle.listing.specs.Bound.{tail_for, above, KeysAlike}
use Rattle.listing.proofs.ListingLaws.{NotAfter, First, names_first, names_rising, page_next}
use Rattle.listing.proofs.BoundLaws.{entry_key, prefix_key, past_text}

-- ---- the keys at or above a bound

-- the seek gives the first of them
pub first_none : (g : List ℕ) (t : ℕ) (rs : List Record) (xs : List Leafy) → KeysAlike rs xs → first_from g t xs ≡ none → above g t rs ≡ []
first_none g t [] xs A e = refl
first_none g t (r ∷ rs) [] A e = absurd A
first_none g t (r ∷ rs) (x ∷ xs) A e = bool_cases (reach g t x.key)
    (λ u. clash (let z = rw u at e in cc))
    (λ u. rw (A.0, u) (first_none g t rs xs A.1 (rw u at e)))

pub record Begun (g : List ℕ) (t : ℕ) (rs : List Record) (k : List ℕ) : Type 0 where
  pub head : Record
  pub rest : List Record
  pub is : above g t rs ≡ head ∷ rest
  pub key_is : head.key ≡ k
  pub reached : reach g t k ≡ true

pub first_some : (g : List ℕ) (t : ℕ) (rs : List Record) (xs : List Leafy) (l : Leafy) → KeysAlike rs xs → first_from g t xs ≡ some l → Begun g t rs l.key
first_some g t [] [] l A e = clash (cc)
first_some g t [] (x ∷ xs) l A e = absurd A
first_some g t (r ∷ rs) [] l A e = absurd A
first_some g t (r ∷ rs) (x ∷ xs) l A e = bool_cases (reach g t x.key)
    (λ u. let q : some x ≡ some l = rw u at e in let w : x ≡ l = cc in
    let v : reach g t r.key ≡ true = rw A.0 u in
    record { head = r; rest = above g t rs; is = rw v; key_is = A.0 ∙ ap (λ (y : Leafy). y.key) w; reached = rw (← w) u })
    (λ u. let v : reach g t r.key ≡ false = rw A.0 u in
    let on = first_some g t rs xs l A.1 (rw u at e) in
    record { head = on.head; rest = on.rest; is = rw v on.is; key_is = on.key_is; reached = on.reached })

above_keys : (g : List ℕ) (t : ℕ) (P : List ℕ → Type 0) (rs : List Record) → AllKeys P rs → AllKeys P (above g t rs)
above_keys g t P [] h = tt
above_keys g t P (r ∷ rs) h = bool_cases (reach g t r.key) (λ u. rw u (h.0, above_keys g t P rs h.1)) (λ u. rw u (above_keys g t P rs h.1))

above_ascending : (g : List ℕ) (t : ℕ) (rs : List Record) → Ascending rs → Ascending (above g t rs)
above_ascending g t [] h = tt
above_ascending g t (r ∷ rs) h = bool_cases (reach g t r.key)
    (λ u. rw u (above_keys g t (Ahead r.key) rs h.0, above_ascending g t rs h.1))
    (λ u. rw u (above_ascending g t rs h.1))

-- ---- the names of the keys at or above a bound

-- a bound that no matching key is below shuts none out
pub above_all : (d : Option ℕ) (p g : List ℕ) (t : ℕ) (rs : List Record) → ((k : List ℕ) → begins p k ≡ true → reach g t k ≡ true) → names d p (above g t rs) ≡ names d p rs
above_all d p g t [] h = refl
above_all d p g t (r ∷ rs) h = let on = above_all d p g t rs h in bool_cases (begins p r.key)
    (λ u. rw (h r.key u, u) (ap (λ (x : List (List ℕ)). add_name (entry_for d p r.key) x) on))
    (λ u. bool_cases (reach g t r.key) (λ v. rw (v, u) on) (λ v. rw (v, u) on))

-- from the prefix on
pub above_prefix : (d : Option ℕ) (p : List ℕ) (rs : List Record) → names d p (above p 0 rs) ≡ names d p rs
above_prefix d p rs = above_all d p p 0 rs (λ k b. prefix_key p k b)

-- one entry more, before or after the start key
start_add : (s e : List ℕ) (es : List (List ℕ)) → First e es → after_start (some s) (add_name e es) ≡ pick (before s e) (add_name e (after_start (some s) es)) (after_start (some s) es)
start_add s e [] h = bool_cases (before s e) (λ t. rw t) (λ t. rw t)
start_add s e (x ∷ es) h = bool_cases (same e x)
    (λ t. let q = same_true e x t in bool_cases (before s e)
    (λ u. let v : before s x ≡ true = rw (← q) u in rw (t, u, v) (rw t))
    (λ u. let v : before s x ≡ false = rw (← q) u in rw (t, u, v)))
    (λ t. bool_cases (before s e)
    (λ u. let v = follows h u in rw (t, u, v) (rw t))
    (λ u. rw (t, u)))
  where
    follows : NotAfter e x → before s e ≡ true → before s x ≡ true
    follows (inl q) u = rw (← q) u
    follows (inr b) u = before_trans s e x u b

-- from a start key, or an entry, that begins with the prefix: what its bound lets through are the entries after it
pub above_start : (E : Edition) (d : Option ℕ) (p s : List ℕ) (rs : List Record) → begins p s ≡ true → Ascending rs → AllKeys (Legal E) rs
    → names d p (above (entry_for d p s) (tail_for d p s) rs) ≡ after_start (some s) (names d p rs)
above_start E d p s [] b A L = refl
above_start E d p s (r ∷ rs) b A L =
    let on = above_start E d p s rs b A.1 L.1 in
    let k = r.key in
    let e = entry_for d p k in
    bool_cases (begins p k)
    (λ u.
    let q = entry_key d p s k b u L.0.bytes in
    let F = names_first d p k rs u A.0 in
    bool_cases (before s e)
    (λ v. let w : reach (entry_for d p s) (tail_for d p s) k ≡ true = sym q ∙ v in
    rw (w, u, start_add s e (names d p rs) F, v) (ap (λ (x : List (List ℕ)). add_name e x) on))
    (λ v. let w : reach (entry_for d p s) (tail_for d p s) k ≡ false = sym q ∙ v in
    rw (w, u, start_add s e (names d p rs) F, v) on))
    (λ u. bool_cases (reach (entry_for d p s) (tail_for d p s) k) (λ v. rw (v, u) on) (λ v. rw (v, u) on))

-- ---- a start key that does not begin with the prefix

-- below it: every entry sorts after it
pub below_prefix : (d : Option ℕ) (p s : List ℕ) → begins p s ≡ false → (weigh p 0 s ≡ 2 → ⊥) → (k : List ℕ) → begins p k ≡ true → before s (entry_for d p k) ≡ true
below_prefix d [] s b w k c = clash (cc)
below_prefix d (z ∷ p) [] b w [] c = clash (cc)
below_prefix d (z ∷ p) [] b w (y ∷ k) c = refl
below_prefix d (z ∷ p) (x ∷ s) b w [] c = clash (cc)
below_prefix d (z ∷ p) (x ∷ s) b w (y ∷ k) c = eqb_cases z y
    (λ t q. ltb_cases z x
    (λ u o. absurd (w (rw u)))
    (λ u o. eqb_cases z x
    (λ v r. rw (le-ltb x y (omega arith), eq-eqb x y (omega arith)) (below_prefix d p s (rw v at b) (λ g. w (rw (u, v) g)) k (rw t at c)))
    (λ v r. rw (lt-ltb x y (omega arith)))))
    (λ t q. clash (let e = rw t at c in cc))

-- above it: none does
pub above_none : (d : Option ℕ) (p s : List ℕ) → begins p s ≡ false → weigh p 0 s ≡ 2 → (k : List ℕ) → begins p k ≡ true → before s (entry_for d p k) ≡ false
above_none d [] s b w k c = clash (cc)
above_none d (z ∷ p) [] b w k c = let e : ◌≡◌ {A = ℕ} 1 2 = w in absurd (omega arith)
above_none d (z ∷ p) (x ∷ s) b w [] c = clash (cc)
above_none d (z ∷ p) (x ∷ s) b w (y ∷ k) c = eqb_cases z y
    (λ t q. ltb_cases z x
    (λ u o. rw (le-ltb x y (omega arith), ne_eqb x y (λ r. omega arith)))
    (λ u o. eqb_cases z x
    (λ v r. rw (le-ltb x y (omega arith), eq-eqb x y (omega arith)) (above_none d p s (rw v at b) (rw (u, v) at w) k (rw t at c)))
    (λ v r. let e : ◌≡◌ {A = ℕ} 0 2 = rw (u, v) at w in absurd (omega arith))))
    (λ t q. clash (let e = rw t at c in cc))

pub start_all : (d : Option ℕ) (p s : List ℕ) → ((k : List ℕ) → begins p k ≡ true → before s (entry_for d p k) ≡ true) → (rs : List Record) → Ascending rs → after_start (some s) (names d p rs) ≡ names d p rs
start_all d p s h [] A = refl
start_all d p s h (r ∷ rs) A = let on = start_all d p s h rs A.1 in bool_cases (begins p r.key)
    (λ u. rw (u, start_add s (entry_for d p r.key) (names d p rs) (names_first d p r.key rs u A.0), h r.key u) (ap (λ (x : List (List ℕ)). add_name (entry_for d p r.key) x) on))
    (λ u. rw u on)

pub start_none : (d : Option ℕ) (p s : List ℕ) → ((k : List ℕ) → begins p k ≡ true → before s (entry_for d p k) ≡ false) → (rs : List Record) → Ascending rs → after_start (some s) (names d p rs) ≡ []
start_none d p s h [] A = refl
start_none d p s h (r ∷ rs) A = let on = start_none d p s h rs A.1 in bool_cases (begins p r.key)
    (λ u. rw (u, start_add s (entry_for d p r.key) (names d p rs) (names_first d p r.key rs u A.0), h r.key u) on)
    (λ u. rw u on)

-- ---- a key that does not begin with the prefix ends the listing

none_match : (d : Option ℕ) (p g : List ℕ) (t : ℕ) (k : List ℕ) (rs : List Record) → begins p g ≡ true → reach g t k ≡ true → begins p k ≡ false → AllKeys (Ahead k) rs
    → names d p rs ≡ []
none_match d p g t k [] b r n A = refl
none_match d p g t k (x ∷ rs) b r n A = rw (past_text p g t k x.key b r n A.0.fore) (none_match d p g t k rs b r n A.1)

-- ---- the next entry

add_head : (e : List ℕ) (es : List (List ℕ)) → (rest : List (List ℕ)) × (add_name e es ≡ e ∷ rest)
add_head e [] = ([], refl)
add_head e (x ∷ es) = bool_cases (same e x)
    (λ t. (es, rw t (ap (λ (y : List ℕ). y ∷ es) (sym (same_true e x t)))))
    (λ t. (x ∷ es, rw t))

-- the entries that are left are those of the keys at or above a bound
module _ (d : Option ℕ) (p g : List ℕ) (t : ℕ) (rs : List Record) (s : Option (List ℕ)) (A : Ascending rs)
    (left : names d p (above g t rs) ≡ after_start s (names d p rs)) where
  -- there is no such key
  pub left_none : above g t rs ≡ [] → after_start s (names d p rs) ≡ []
  left_none e = sym left ∙ ap (λ (x : List Record). names d p x) e

  -- the first of them does not match
  pub left_past : begins p g ≡ true → {k : List ℕ} → Begun g t rs k → begins p k ≡ false → after_start s (names d p rs) ≡ []
  left_past b {k} B n =
      let O : Ascending (B.head ∷ B.rest) = rw B.is at (above_ascending g t rs A) in
      let h : AllKeys (Ahead k) B.rest = rw B.key_is at O.0 in
      let m : begins p B.head.key ≡ false = rw B.key_is n in
      sym left ∙ ap (λ (x : List Record). names d p x) B.is ∙ rw m (none_match d p g t k B.rest b B.reached n h)

  -- it does: its entry, and what is left after that
  pub left_some : {k : List ℕ} → Begun g t rs k → begins p k ≡ true → after_start s (names d p rs) ≡ entry_for d p k ∷ after_start (some (entry_for d p k)) (names d p rs)
  left_some {k} B m =
      let e = entry_for d p k in
      let H = add_head e (names d p B.rest) in
      let n : names d p (B.head ∷ B.rest) ≡ add_name e (names d p B.rest) = rw (B.key_is, m) in
      let W : after_start s (names d p rs) ≡ e ∷ H.0 = sym left ∙ ap (λ (x : List Record). names d p x) B.is ∙ n ∙ H.1 in
      let one : 0 < length (after_start s (names d p rs)) = rw W (omega arith) in
      let next = page_next s (names d p rs) 0 (names_rising d p rs A) one in
      let next' : after_start (some e) (names d p rs) ≡ H.0 = rw W at next in
      W ∙ ap (λ (x : List (List ℕ)). e ∷ x) (sym next')

-- ---- a page as it fills

laid_append : (xs ys : List (List ℕ)) → laid (xs ++ ys) ≡ laid xs ++ laid ys
laid_append [] ys = refl
laid_append (x ∷ xs) ys = rw (laid_append xs ys) (simp append_assoc)

length_laid : (e : List ℕ) (es : List (List ℕ)) → length (laid (e ∷ es)) ≡ 2 + length e + length (laid es)
length_laid e es = omega (arith, length-append e (laid es))

fitting_append : (xs ys : List (List ℕ)) (room : ℕ) → length (laid xs) ≤ room → fitting room (xs ++ ys) ≡ length xs + fitting (room - length (laid xs)) ys
fitting_append [] ys room h = none_yet 0 refl
  where
    none_yet : (n : ℕ) → n ≡ 0 → fitting room ys ≡ 0 + fitting (room - n) ys
    none_yet n e = let z : room - n ≡ room = omega arith in let q : fitting (room - n) ys ≡ fitting room ys = ap (λ (m : ℕ). fitting m ys) z in omega arith
fitting_append (x ∷ xs) ys room h =
    let l = length_laid x xs in
    let n = room - (2 + length x) in
    let on = fitting_append xs ys n (omega arith) in
    let q : n - length (laid xs) ≡ room - length (laid (x ∷ xs)) = omega arith in
    rw (le-leb (2 + length x) room (omega arith), on, q) (omega arith)

-- the entries written so far, what is left, and the buffer
pub record Filled (whole : List (List ℕ)) (b : List ℕ) (count used : ℕ) (b' : List ℕ) (left : List (List ℕ)) : Type 0 where
  pub done : List (List ℕ)
  pub is : whole ≡ done ++ left
  pub counted : length done ≡ count
  pub long : length (laid done) ≡ used
  pub inside : used ≤ length b
  pub text : b' ≡ laid done ++ drop used b

pub fill_start : (whole : List (List ℕ)) (b : List ℕ) → Filled whole b 0 0 b whole
fill_start whole b = record { done = []; is = refl; counted = refl; long = refl; inside = omega arith; text = refl }

module _ {whole : List (List ℕ)} {b : List ℕ} {count used : ℕ} {b' : List ℕ} {left : List (List ℕ)} (F : Filled whole b count used b' left) where
  fits_all : fitting (length b) whole ≡ count + fitting (length b - used) left
  fits_all =
      let i = F.inside in let l = F.long in
      ap (fitting (length b)) F.is ∙ fitting_append F.done left (length b) (omega arith) ∙ rw (F.counted, F.long)

  pub fill_long : length b' ≡ length b
  fill_long = let i = F.inside in let l = F.long in ap length F.text ∙ length-append (laid F.done) (drop used b) ∙ omega (arith, length-drop used b)

  abbrev page_of : ℕ → Listed
  page_of more = record { number = 0; count = count; more = more; text = laid F.done }

  done_take : take count whole ≡ F.done
  done_take = ap (take count) F.is ∙ take_at F.done left count F.counted

  gave : (more : ℕ) → page (length b) whole ≡ page_of more → Gave (page (length b) whole) b 0 count more b'
  gave more q = rw q (record { number_is = refl; count_is = refl; more_is = refl; buffer = F.text ∙ ap (λ (n : ℕ). laid F.done ++ drop n b) (sym F.long) })

  whole_long : length whole ≡ count + length left
  whole_long = ap length F.is ∙ length-append F.done left ∙ ap (λ (n : ℕ). n + length left) F.counted

  -- all that was left is written
  pub fill_end : left ≡ [] → Gave (page (length b) whole) b 0 count 0 b'
  fill_end e =
      let n : fitting (length b) whole ≡ count = fits_all ∙ ap (λ (x : List (List ℕ)). count + fitting (length b - used) x) e ∙ omega arith in
      let l : length whole ≡ count = whole_long ∙ ap (λ (x : List (List ℕ)). count + length x) e ∙ omega arith in
      gave 0 (ended whole count n l ∙ rw done_take)
    where
      ended : (xs : List (List ℕ)) (n : ℕ) → fitting (length b) xs ≡ n → length xs ≡ n → page (length b) xs ≡ record { number = 0; count = n; more = 0; text = laid (take n xs) }
      ended [] n q l = rw (← l)
      ended (x ∷ xs) n q l = rw (q, ne_eqb n 0 (λ z. omega arith), le-ltb n (length (x ∷ xs)) (omega arith))

  module _ {e : List ℕ} {rest : List (List ℕ)} (l : left ≡ e ∷ rest) where
    -- the next one does not fit
    module _ (o : length b < used + (2 + length e)) where
      none_fits : fitting (length b) whole ≡ count
      none_fits =
          let i = F.inside in
          let n : leb (2 + length e) (length b - used) ≡ false = leb_cases (2 + length e) (length b - used) (λ t p. absurd (omega arith)) (λ t p. t) in
          fits_all ∙ ap (λ (x : List (List ℕ)). count + fitting (length b - used) x) l ∙ rw n (omega arith)

      pub fill_more : 1 ≤ count → Gave (page (length b) whole) b 0 count 1 b'
      fill_more c = gave 1 (cut whole count c none_fits (let z = ap length l in omega (arith, whole_long)) ∙ rw done_take)
        where
          cut : (xs : List (List ℕ)) (n : ℕ) → 1 ≤ n → fitting (length b) xs ≡ n → n < length xs → page (length b) xs ≡ record { number = 0; count = n; more = 1; text = laid (take n xs) }
          cut [] n c q l = absurd (omega arith)
          cut (x ∷ xs) n c q l = rw (q, ne_eqb n 0 (λ z. omega arith), lt-ltb n (length (x ∷ xs)) l)

      pub fill_ten : count ≡ 0 → Gave (page (length b) whole) b 10 0 0 b'
      fill_ten c = rw (tenth whole (none_fits ∙ c) (let z = ap length l in omega (arith, whole_long))) (record { number_is = refl; count_is = refl; more_is = refl; buffer = kept })
        where
          tenth : (xs : List (List ℕ)) → fitting (length b) xs ≡ 0 → 1 ≤ length xs → page (length b) xs ≡ refused_as 10
          tenth [] q l = absurd (omega arith)
          tenth (x ∷ xs) q l = rw q

          none_done : (xs : List (List ℕ)) → length xs ≡ 0 → xs ≡ []
          none_done [] h = refl
          none_done (x ∷ xs) h = absurd (omega arith)

          kept : b' ≡ b
          kept =
              let z = none_done F.done (F.counted ∙ c) in
              let u : used ≡ 0 = sym F.long ∙ ap (λ (x : List (List ℕ)). length (laid x)) z in
              F.text ∙ ap (λ (x : List (List ℕ)). laid x ++ drop used b) z ∙ ap (λ (n : ℕ). drop n b) u

    -- it fits, and is written behind the others
    pub fill_one : {b'' : List ℕ} → used + (2 + length e) ≤ length b → b'' ≡ take used b' ++ ((digits 2 (length e) ++ e) ++ drop (used + (2 + length e)) b')
        → Filled whole b (count + 1) (used + (2 + length e)) b'' rest
    fill_one {b''} h q =
        let D = F.done in
        let n = used + (2 + length e) in
        let long : length (laid (e ∷ [])) ≡ 2 + length e = length_laid e [] ∙ omega arith in
        let front : take used b' ≡ laid D = ap (take used) F.text ∙ take_at (laid D) (drop used b) used F.long in
        let back : drop n b' ≡ drop n b
        = sym (drop-drop (2 + length e) used b') ∙ ap (λ (x : List ℕ). drop (2 + length e) (drop used x)) F.text
        ∙ ap (drop (2 + length e)) (drop_at (laid D) (drop used b) used F.long) ∙ drop-drop (2 + length e) used b in
        record {
          done = D ++ e ∷ [];
          is = F.is ∙ ap (λ (x : List (List ℕ)). D ++ x) l ∙ sym (append_assoc D (e ∷ []) rest);
          counted = length-append D (e ∷ []) ∙ ap (λ (m : ℕ). m + 1) F.counted;
          long = ap length (laid_append D (e ∷ [])) ∙ length-append (laid D) (laid (e ∷ [])) ∙ rw (F.long, long);
          inside = h;
          text = q ∙ rw (front, back, laid_append D (e ∷ [])) (simp (append_assoc, append-nil));
        }
