-- The pages of one frame, glued together, are all entries in order; an entry read back from a buffer is the one written; every matching key gives
-- an entry, every entry comes from a matching key, and may be the next start key. Assumes nothing.
use Prim.Native.Nat.{ℕ, zero, suc, ◌+◌, ◌*◌, ◌-◌, ◌/◌, ◌%◌, ◌≤◌}
use native.Mathlib.Omega.{arith}
use mathlib.Core.Path.{◌≡◌, refl, ap, sym, ◌∙◌}
use mathlib.Core.List.{List, [], ◌∷◌, ◌++◌, append_assoc, append-nil}
use mathlib.Core.Bool.{true, false}
use mathlib.Core.Option.{Option, none, some}
use lib.ListN.{length, take, drop, take-append-drop}
use lib.Seq.{take_all, take_at, drop_at}
use lib.Dec.{ltb, leb, eqb}
use Rattle.layout.specs.Number.{le}
use Rattle.model.specs.Strings.{pick, same, before, All}
use Rattle.model.specs.Edition.{Edition, edition_of, FitsFields, Lawful}
use Rattle.model.specs.Tree.{Art}
use Rattle.model.specs.Records.{Record, records_of, lookup, absent}
use Rattle.model.specs.State.{State}
use Rattle.model.specs.Image.{digits}
use Rattle.model.specs.Frame.{Stands}
use Rattle.model.proofs.StringLaws.{bool_cases, eqb_cases, ltb_cases, clash, same_refl, same_true}
use Rattle.model.proofs.Edition1.{Positive}
use Rattle.model.proofs.Edition2.{key_sized, key_part}
use Rattle.model.proofs.PackedLaws.{LegalRecords, legal_records}
use Rattle.model.proofs.GoodState.{TreeOk}
use Rattle.model.proofs.StateLaws.{tree_ascending}
use Rattle.model.proofs.StandsGood.{stands_good}
use Rattle.listing.specs.Listing.{begins, upto, entry_for, add_name, names, after_start, fitting, laid, Listed, written, page, prefix_fault, start_fault, listing, ListPromise}
use Rattle.listing.specs.Pages.{Rising, among, last_of, entries_in, Page, entries, Pages, glued}
use Rattle.listing.proofs.ListingLaws.{names_rising, page_next}

-- ---- an entry is no longer than its key, and has a byte if the key has

upto_short : (d : Option ℕ) (k : List ℕ) → length (upto d k) ≤ length k
upto_short none k = omega arith
upto_short (some c) [] = omega arith
upto_short (some c) (x ∷ k) = let on = upto_short (some c) k in bool_cases (eqb x c) (λ t. rw t (omega arith)) (λ t. rw t (omega arith))

entry_short : (d : Option ℕ) (p k : List ℕ) → length (entry_for d p k) ≤ length k
entry_short d [] k = upto_short d k
entry_short d (a ∷ p) [] = omega arith
entry_short d (a ∷ p) (x ∷ k) = let on = entry_short d p k in omega arith

upto_some : (d : Option ℕ) (k : List ℕ) → 1 ≤ length k → 1 ≤ length (upto d k)
upto_some none k h = h
upto_some (some c) [] h = h
upto_some (some c) (x ∷ k) h = bool_cases (eqb x c) (λ t. rw t (omega arith)) (λ t. rw t (omega arith))

entry_some : (d : Option ℕ) (p k : List ℕ) → 1 ≤ length k → 1 ≤ length (entry_for d p k)
entry_some d [] k h = upto_some d k h
entry_some d (a ∷ p) [] h = h
entry_some d (a ∷ p) (x ∷ k) h = omega arith

-- its bytes are the key's
upto_all : (P : ℕ → Type 0) (d : Option ℕ) (k : List ℕ) → All P k → All P (upto d k)
upto_all P none k h = h
upto_all P (some c) [] h = tt
upto_all P (some c) (x ∷ k) h = bool_cases (eqb x c) (λ t. rw t (h.0, tt)) (λ t. rw t (h.0, upto_all P (some c) k h.1))

entry_all : (P : ℕ → Type 0) (d : Option ℕ) (p k : List ℕ) → All P k → All P (entry_for d p k)
entry_all P d [] k h = upto_all P d k h
entry_all P d (a ∷ p) [] h = tt
entry_all P d (a ∷ p) (x ∷ k) h = (h.0, entry_all P d p k h.1)

-- so the last entry of a page may be the start key of the next
pub entry_legal : (ed : ℕ) (d : Option ℕ) (p k : List ℕ) → (edition_of ed).key_fault k ≡ 0 → (edition_of ed).key_fault (entry_for d p k) ≡ 0
entry_legal ed d p k h = key_part ed k (entry_for d p k) h (entry_some d p k (key_sized ed k h).some) (entry_short d p k) (entry_all Positive d p k)

-- ---- every matching key's entry is among the names, and no other

add_among : (e x : List ℕ) (es : List (List ℕ)) → among e es ≡ true → among e (add_name x es) ≡ true
add_among e x [] h = clash (cc)
add_among e x (y ∷ es) h = bool_cases (same x y) (λ t. rw t h) (λ t. rw t (bool_cases (same e x) (λ u. rw u) (λ u. rw u h)))

add_self : (e : List ℕ) (es : List (List ℕ)) → among e (add_name e es) ≡ true
add_self e [] = rw (same_refl e)
add_self e (x ∷ es) = bool_cases (same e x) (λ t. rw t (rw t)) (λ t. rw t (rw (same_refl e)))

add_only : {G : Type 0} (e x : List ℕ) (es : List (List ℕ)) → among e (add_name x es) ≡ true → (e ≡ x → G) → (among e es ≡ true → G) → G
add_only e x [] h f g = bool_cases (same e x) (λ t. f (same_true e x t)) (λ t. clash (let z = rw t at h in cc))
add_only e x (y ∷ es) h f g = bool_cases (same x y)
    (λ t. g (rw t at h))
    (λ t. let z = rw t at h in bool_cases (same e x) (λ u. f (same_true e x u)) (λ u. g (rw u at z)))

module _ (d : Option ℕ) (p : List ℕ) where
  pub names_all : (rs : List Record) (k : List ℕ) → absent (lookup k rs) ≡ false → begins p k ≡ true → among (entry_for d p k) (names d p rs) ≡ true
  names_all [] k h b = clash (cc)
  names_all (r ∷ rs) k h b = bool_cases (same k r.key)
      (λ t. let q = same_true k r.key t in rw (← q, b) (add_self (entry_for d p k) (names d p rs)))
      (λ t. let on = names_all rs k (rw t at h) b in bool_cases (begins p r.key)
      (λ u. rw u (add_among (entry_for d p k) (entry_for d p r.key) (names d p rs) on))
      (λ u. rw u on))

  -- the key of an entry
  pub record KeyOf (rs : List Record) (e : List ℕ) : Type 0 where
    pub key : List ℕ
    pub present : absent (lookup key rs) ≡ false
    pub matches : begins p key ≡ true
    pub is : e ≡ entry_for d p key

  one_more : (r : Record) (rs : List Record) (e : List ℕ) → KeyOf rs e → KeyOf (r ∷ rs) e
  one_more r rs e K = record { key = K.key; present = bool_cases (same K.key r.key) (λ t. rw t) (λ t. rw t K.present); matches = K.matches; is = K.is }

  pub names_only : (rs : List Record) (e : List ℕ) → among e (names d p rs) ≡ true → KeyOf rs e
  names_only [] e h = clash (cc)
  names_only (r ∷ rs) e h = bool_cases (begins p r.key)
      (λ t. add_only e (entry_for d p r.key) (names d p rs) (rw t at h)
      (λ q. record { key = r.key; present = rw (same_refl r.key); matches = t; is = q })
      (λ a. one_more r rs e (names_only rs e a)))
      (λ t. one_more r rs e (names_only rs e (rw t at h)))

-- ---- entries read back

abbrev Short : List (List ℕ) → Type 0
Short [] = Unit {0}
Short (e ∷ es) = (length e ≤ 65535) × Short es

module _ (E : Edition) (fits : FitsFields E) (d : Option ℕ) (p : List ℕ) where
  add_short : (e : List ℕ) (es : List (List ℕ)) → length e ≤ 65535 → Short es → Short (add_name e es)
  add_short e [] h s = (h, tt)
  add_short e (x ∷ es) h s = bool_cases (same e x) (λ t. rw t s) (λ t. rw t (h, s))

  names_short : (rs : List Record) → LegalRecords E rs → Short (names d p rs)
  names_short [] h = tt
  names_short (r ∷ rs) h = let on = names_short rs h.2 in bool_cases (begins p r.key)
      (λ t. rw t (add_short (entry_for d p r.key) (names d p rs) (let a = fits.keys r.key h.0 in let b = entry_short d p r.key in omega arith) on))
      (λ t. rw t on)

start_short : (s : Option (List ℕ)) (es : List (List ℕ)) → Short es → Short (after_start s es)
start_short none es h = h
start_short (some s) [] h = tt
start_short (some s) (e ∷ es) h = let on = start_short (some s) es h.1 in bool_cases (before s e) (λ t. rw t (h.0, on)) (λ t. rw t on)

-- two digits say a length
two_digits : (n : ℕ) → n ≤ 65535 → n % 256 + 256 * (n / 256 % 256 + 0) ≡ n
two_digits n h = omega arith

past_two : (n x y : ℕ) (w : List ℕ) → drop (2 + n) (x ∷ y ∷ w) ≡ drop n w
past_two n x y w = let z : 2 + n ≡ suc (suc n) = omega arith in rw z

read_first : (e r : List ℕ) (n : ℕ) → length e ≤ 65535 → entries_in (suc n) (digits 2 (length e) ++ (e ++ r)) ≡ e ∷ entries_in n r
unfolding le
read_first e r n h = rw (two_digits (length e) h, past_two (length e) (length e % 256) (length e / 256 % 256) (e ++ r), take_at e r, drop_at e r)

-- as many as were written, whatever stands behind them
pub read_back : (n : ℕ) (es : List (List ℕ)) (r : List ℕ) → Short es → n ≤ length es → entries_in n (laid (take n es) ++ r) ≡ take n es
read_back zero es r h l = refl
read_back (suc n) [] r h l = absurd (omega arith)
read_back (suc n) (e ∷ es) r h l =
    ap (λ (b : List ℕ). entries_in (suc n) (digits 2 (length e) ++ b)) (append_assoc e (laid (take n es)) r)
    ∙ read_first e (laid (take n es) ++ r) n h.0 ∙ ap (λ (xs : List (List ℕ)). e ∷ xs) (read_back n es r h.1 (omega arith))

-- ---- a page that was not refused

fitting_most : (room : ℕ) (es : List (List ℕ)) → fitting room es ≤ length es
fitting_most room [] = omega arith
fitting_most room (e ∷ es) = let on = fitting_most (room - (2 + length e)) es in bool_cases (leb (2 + length e) room) (λ t. rw t (omega arith)) (λ t. rw t (omega arith))

page_written : (room : ℕ) (es : List (List ℕ)) → 0 ≡ (page room es).number → page room es ≡ written (fitting room es) es
page_written room [] h = refl
page_written room (e ∷ es) h = bool_cases (eqb (fitting room (e ∷ es)) 0)
    (λ t. let z : ◌≡◌ {A = ℕ} 0 10 = rw t at h in absurd (omega arith))
    (λ t. rw t)

-- more remain only after an entry, so that a next page has a start key
page_some : (room : ℕ) (es : List (List ℕ)) → 0 ≡ (page room es).number → 1 ≤ length es → 1 ≤ fitting room es
page_some room [] h l = absurd (omega arith)
page_some room (e ∷ es) h l = eqb_cases (fitting room (e ∷ es)) 0
    (λ t q. let z : ◌≡◌ {A = ℕ} 0 10 = rw t at h in absurd (omega arith))
    (λ t n. omega arith)

module _ (E : Edition) (rs : List Record) (p : List ℕ) (s : Option (List ℕ)) (d : Option ℕ) (room : ℕ) where
  listing_page : 0 ≡ (listing E rs p s d room).number → listing E rs p s d room ≡ page room (after_start s (names d p rs))
  listing_page h = eqb_cases (prefix_fault E p) 0
      (λ t q. eqb_cases (start_fault E s) 0
      (λ u r. rw (t, u))
      (λ u r. absurd (r (sym (rw (t, u) at h)))))
      (λ t q. absurd (q (sym (rw t at h))))

-- of a frame that stands for a state: the page holds the first of the entries that are left, and tells whether there are others
record PageOf (left : List (List ℕ)) (g : Page) : Type 0 where
  pub most : g.count ≤ length left
  pub are : entries g ≡ take g.count left
  pub others : g.more ≡ pick (ltb g.count (length left)) 1 0
  pub some : 1 ≤ length left → 1 ≤ g.count

module _ {E : Edition} (L : Lawful E) (f p : List ℕ) (d : Option ℕ) (st : State) (S : Stands E f st) where
  abbrev all : List (List ℕ)
  all = names d p (records_of st.tree)

  well : TreeOk E st.tree
  well = (stands_good E f st S).well

  all_rising : Rising all
  all_rising = names_rising d p (records_of st.tree) (tree_ascending L st.tree well)

  all_short : Short all
  all_short = names_short E L.fields d p (records_of st.tree) (tree_legal st.tree well)
    where
      tree_legal : (t : Option Art) → TreeOk E t → LegalRecords E (records_of t)
      tree_legal none h = tt
      tree_legal (some a) h = legal_records L a [] h

  page_of : (s : Option (List ℕ)) (g : Page) → ListPromise E f p s d g.buffer 0 g.count g.more g.after → PageOf (after_start s all) g
  page_of s g P =
      let l = P.listed st S in
      let left = after_start s all in
      let room = length g.buffer in
      let e = listing_page E (records_of st.tree) p s d room l.number_is in
      let z : 0 ≡ (page room left).number = l.number_is ∙ ap (λ (x : Listed). x.number) e in
      let w = e ∙ page_written room left z in
      let n = fitting room left in
      let c : g.count ≡ n = l.count_is ∙ ap (λ (x : Listed). x.count) w in
      let m = fitting_most room left in
      record {
        most = omega arith;
        are =
            ap (λ (x : List ℕ). entries_in g.count x) (l.buffer ∙ ap (λ (x : Listed). x.text ++ drop (length x.text) g.buffer) w)
            ∙ rw c (read_back n left (drop (length (laid (take n left))) g.buffer) (start_short s all all_short) m);
        others = l.more_is ∙ ap (λ (x : Listed). x.more) w ∙ sym (ap (λ (x : ℕ). pick (ltb x (length left)) 1 0) c);
        some = λ h. let k = page_some room left z h in omega arith;
      }

  -- "Every matching name appears once over the pages": whatever buffers were lent, as long as none was refused, the pages from a start key on
  -- hold just the entries after it, in order
  pub pages_all : (s : Option (List ℕ)) (gs : List Page) → Pages E f p s d gs → glued gs ≡ after_start s all
  pages_all s [] G = absurd G
  pages_all s (g ∷ []) G =
      let P = page_of s g G.0 in
      let left = after_start s all in
      ltb_cases g.count (length left)
      (λ t o. let z : g.more ≡ 1 = P.others ∙ rw t in let y = G.1 in absurd (omega arith))
      (λ t o. simp append-nil (P.are ∙ take_all g.count left o))
  pages_all s (g ∷ h ∷ gs) G =
      let P = page_of s g G.0 in
      let left = after_start s all in
      ltb_cases g.count (length left)
      (λ t o.
      let c = P.some (omega arith) in
      let n = g.count - 1 in
      let e : g.count ≡ suc n = omega arith in
      let on = pages_all (some (last_of (entries g))) (h ∷ gs) G.2 in
      let next : after_start (some (last_of (entries g))) all ≡ drop g.count left
      = ap (λ (x : List (List ℕ)). after_start (some (last_of x)) all) P.are ∙ ap (λ (m : ℕ). after_start (some (last_of (take m left))) all) e
      ∙ page_next s all n all_rising (omega arith) ∙ sym (ap (λ (m : ℕ). drop m left) e) in
      ap (λ (x : List (List ℕ)). x ++ glued (h ∷ gs)) P.are ∙ ap (λ (x : List (List ℕ)). take g.count left ++ x) (on ∙ next) ∙ take-append-drop g.count left)
      (λ t o. let z : g.more ≡ 0 = P.others ∙ rw t in let y = G.1 in absurd (omega arith))
