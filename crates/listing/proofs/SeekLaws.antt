-- One law for each way that a seek goes: past a Prefix, into or beside the child of the bound's byte, to the bound's end. Assumes nothing.
use Prim.Native.Nat.{ℕ, suc, ◌<◌, ◌≤◌}
use native.Mathlib.Omega.{arith}
use mathlib.Core.Path.{◌≡◌, refl, sym, ◌∙◌}
use mathlib.Core.List.{List, [], ◌∷◌, ◌++◌}
use mathlib.Core.Bool.{true, false}
use mathlib.Core.Option.{none}
use lib.ListN.{length, drop}
use lib.Dec.{ltb, leb, eqb}
use borrow.Author.Tests.{lt-ltb, le-ltb, le-leb, ne_eqb}
use Rattle.model.specs.Strings.{pick}
use Rattle.model.specs.Edition.{Edition}
use Rattle.model.specs.Frame.{Lay, LayKids}
use Rattle.model.specs.Frame.LayKids.{nil, kid}
use Rattle.model.proofs.StringLaws.{bool_cases, eqb_cases, ltb_cases, leb_cases}
use Rattle.listing.specs.Seek.{Leafy, leaves, leaves_all, weigh, reach, first_from, first_leaf, or_else, kids_from, leaves_at, AllL, From, Guides, Under, Kept}

-- ---- weighing goes on where it stopped

pub weigh_append : (g : List ℕ) (t : ℕ) (p r : List ℕ) → weigh g t (p ++ r) ≡ pick (eqb (weigh g t p) 1) (weigh (drop (length p) g) t r) (weigh g t p)
weigh_append g t [] r = refl
weigh_append [] t (x ∷ p) r = bool_cases (leb t x) (λ e. rw e) (λ e. rw e)
weigh_append (b ∷ g) t (x ∷ p) r = let on = weigh_append g t p r in bool_cases (ltb b x)
    (λ e. rw e)
    (λ e. bool_cases (eqb b x) (λ f. rw (e, f) on) (λ f. rw (e, f)))

-- one byte more, past a path that has not decided: the bound has a byte there, or is at its end
pub weigh_byte : (g : List ℕ) (t : ℕ) (path : List ℕ) (x : ℕ) (h : List ℕ) (c : ℕ) → weigh g t path ≡ 1 → drop (length path) g ≡ x ∷ h
    → weigh g t (path ++ c ∷ []) ≡ pick (ltb x c) 2 (pick (eqb x c) 1 0)
weigh_byte g t path x h c u e = weigh_append g t path (c ∷ []) ∙ rw (u, e)

pub weigh_tail : (g : List ℕ) (t : ℕ) (path : List ℕ) (c : ℕ) → weigh g t path ≡ 1 → drop (length path) g ≡ [] → weigh g t (path ++ c ∷ []) ≡ pick (leb t c) 2 0
weigh_tail g t path c u e = weigh_append g t path (c ∷ []) ∙ rw (u, e)

-- ---- lists of Leaves

pub all_append : (P : List ℕ → Type 0) (xs ys : List Leafy) → AllL P xs → AllL P ys → AllL P (xs ++ ys)
all_append P [] ys h k = k
all_append P (x ∷ xs) ys h k = (h.0, all_append P xs ys h.1 k)

pub all_map : (P Q : List ℕ → Type 0) → ((k : List ℕ) → P k → Q k) → (xs : List Leafy) → AllL P xs → AllL Q xs
all_map P Q f [] h = tt
all_map P Q f (x ∷ xs) h = (f x.key h.0, all_map P Q f xs h.1)

module _ (g : List ℕ) (t : ℕ) where
  abbrev Reach : List ℕ → Type 0
  Reach k = reach g t k ≡ true

  abbrev Short : List ℕ → Type 0
  Short k = reach g t k ≡ false

  pub first_append : (xs ys : List Leafy) → first_from g t (xs ++ ys) ≡ or_else (first_from g t xs) (first_from g t ys)
  first_append [] ys = refl
  first_append (x ∷ xs) ys = bool_cases (reach g t x.key) (λ e. rw e) (λ e. rw e (first_append xs ys))

  pub first_short : (xs : List Leafy) → AllL Short xs → first_from g t xs ≡ none
  first_short [] h = refl
  first_short (x ∷ xs) h = rw h.0 (first_short xs h.1)

  pub first_reach : (xs : List Leafy) → AllL Reach xs → first_from g t xs ≡ first_leaf xs
  first_reach [] h = refl
  first_reach (x ∷ xs) h = rw h.0

-- ---- a path that has decided

module _ {E : Edition} {g : List ℕ} {t : ℕ} {w : List ℕ} (G : Guides E g t w) where
  pub all_above : (path : List ℕ) (l : Lay) → weigh w t path ≡ 2 → Under E path l → AllL (Reach g t) (leaves l)
  all_above path l u h = all_map (From E path) (Reach g t) (λ k f. G.above path k f u) (leaves l) h

  pub all_below : (path : List ℕ) (l : Lay) → weigh w t path ≡ 0 → Under E path l → AllL (Short g t) (leaves l)
  all_below path l u h = all_map (From E path) (Short g t) (λ k f. G.below path k f u) (leaves l) h

  -- the seek at a tree under it: its first Leaf, or none
  pub seek_above : (path : List ℕ) (l : Lay) → weigh w t path ≡ 2 → Under E path l → first_from g t (leaves l) ≡ first_leaf (leaves l)
  seek_above path l u h = first_reach g t (leaves l) (all_above path l u h)

  pub seek_below : (path : List ℕ) (l : Lay) → weigh w t path ≡ 0 → Under E path l → first_from g t (leaves l) ≡ none
  seek_below path l u h = first_short g t (leaves l) (all_below path l u h)

  -- ---- the children of a node under a path that has not decided

  module _ (path : List ℕ) (u : weigh w t path ≡ 1) where
    -- all children from a byte on that the bound stands below
    kids_above : (lo : ℕ) (ks : LayKids) → Kept E path lo ks → ((c : ℕ) → lo ≤ c → weigh w t (path ++ c ∷ []) ≡ 2) → AllL (Reach g t) (leaves_all ks)
    kids_above lo nil h f = tt
    kids_above lo (kid b j l ks) h f =
        all_append (Reach g t) (leaves l) (leaves_all ks) (all_above (path ++ b ∷ []) l (f b h.0) h.1) (kids_above (suc b) ks h.2 (λ c o. let p = h.0 in f c (omega arith)))

    from_all : (x lo : ℕ) (ks : LayKids) → Kept E path lo ks → x ≤ lo → kids_from x ks ≡ ks
    from_all x lo nil h o = refl
    from_all x lo (kid b j l ks) h o = let p = h.0 in rw (le-ltb b x (omega arith))

    -- the bound ends here: the first child from its tail on
    pub node_tail : (lo : ℕ) (ks : LayKids) → Kept E path lo ks → drop (length path) w ≡ [] → first_from g t (leaves_all ks) ≡ first_leaf (leaves_all (kids_from t ks))
    node_tail lo nil h e = refl
    node_tail lo (kid b j l ks) h e = ltb_cases b t
        (λ z o. rw z (first_append g t (leaves l) (leaves_all ks) ∙ rw (seek_below (path ++ b ∷ []) l (weigh_tail w t path b u e ∙ rw (short b o)) h.1) (node_tail (suc b) ks h.2 e)))
        (λ z o. rw z (first_reach g t (leaves l ++ leaves_all ks) (kids_above b (kid b j l ks) (omega arith, h.1, h.2)
        (λ c q. weigh_tail w t path c u e ∙ rw (le-leb t c (omega arith))))))
      where
        short : (b : ℕ) → b < t → leb t b ≡ false
        short b o = leb_cases t b (λ y p. absurd (omega arith)) (λ y p. y)

    -- the bound has byte x here: what the child of that byte has, or else the first child above
    pub node_byte : (lo : ℕ) (ks : LayKids) (x : ℕ) (r : List ℕ) → Kept E path lo ks → drop (length path) w ≡ x ∷ r
        → first_from g t (leaves_all ks) ≡ or_else (first_from g t (leaves_at x ks)) (first_leaf (leaves_all (kids_from (suc x) ks)))
    node_byte lo nil x r h e = refl
    node_byte lo (kid b j l ks) x r h e = eqb_cases b x
        (λ z q. rw (z, lt-ltb b (suc x) (omega arith), from_all (suc x) (suc b) ks h.2 (omega arith))
        (first_append g t (leaves l) (leaves_all ks) ∙ rw (first_reach g t (leaves_all ks) (kids_above (suc b) ks h.2
        (λ c o. weigh_byte w t path x r c u e ∙ rw (lt-ltb x c (omega arith)))))))
        (λ z n. ltb_cases b x
        (λ y o. rw (z, lt-ltb b (suc x) (omega arith))
        (first_append g t (leaves l) (leaves_all ks) ∙ rw (seek_below (path ++ b ∷ []) l (weigh_byte w t path x r b u e ∙ rw (le-ltb x b (omega arith), ne_eqb x b (λ q. n (sym q)))) h.1) (node_byte (suc b) ks x r h.2 e)))
        (λ y o. rw (z, le-ltb b (suc x) (omega arith), none_at x (suc b) ks h.2 (omega arith))
        (first_reach g t (leaves l ++ leaves_all ks) (kids_above b (kid b j l ks) (omega arith, h.1, h.2)
        (λ c q. weigh_byte w t path x r c u e ∙ rw (lt-ltb x c (omega arith)))))))
      where
        none_at : (x lo : ℕ) (ks : LayKids) → Kept E path lo ks → x < lo → leaves_at x ks ≡ []
        none_at x lo nil h o = refl
        none_at x lo (kid b j l ks) h o = let p = h.0 in rw (ne_eqb b x (λ q. omega arith)) (none_at x (suc b) ks h.2 (omega arith))
