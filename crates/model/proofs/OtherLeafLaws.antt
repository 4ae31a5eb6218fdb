-- Of the Leaves, put and erase touch that of their own key alone: a Leaf of another key is none of the bodies that they free or rewrite. Assumes
-- nothing.
use Prim.Native.Nat.{ℕ, zero, suc, ◌+◌, ◌-◌, ◌≤◌}
use mathlib.Core.Path.{◌≡◌, refl, ap, ◌∙◌}
use mathlib.Core.List.{List, [], ◌∷◌, ◌++◌}
use mathlib.Core.Bool.{Bool, true, false}
use mathlib.Core.Logic.{◌⊎◌, inl, inr, ⊎_elim}
use mathlib.Core.Option.{Option, none, some}
use native.Mathlib.Omega.{arith}
use native.Mathlib.Decide.{dec_le}
use lib.ListN.{length, drop, get_or}
use lib.Dec.{ltb, eqb}
use borrow.Author.Tests.{eq-eqb}
use Rattle.layout.specs.Kind.{leaf_kind, prefix_kind, empty_root_kind, most, shrink_mark}
use Rattle.model.specs.Strings.{pick, same, shared}
use Rattle.model.specs.Edition.{Edition, Value, text_of}
use Rattle.model.specs.Tree.{Art, chain, find_tree, find_kids}
use Rattle.model.specs.State.{State, find_in, erase_found, erase_in, on_erase}
use Rattle.model.specs.Item.{on_slot, sum}
use Rattle.model.specs.Frame.{Lay, LayKids, art, art_kids, Root, bare, tree, root_art, root_items, RootAt, Tree, Trees, freed, Stands}
use Rattle.model.specs.Frame.Lay.{leaf, prefix, node}
use Rattle.model.specs.Frame.LayKids.{nil, kid}
use Rattle.model.specs.Mark.{Mark, mark, marks, marks_all, root_marks, count, In, slot_is}
use Rattle.model.specs.Touch.{restamped, Touch, holder, chain_slots, chain_long, size, has_byte, without, touch_put, touch_put_kids, put_touch, Above, held, under, next, chain_above, top, last_of, touch_lone, touch_lost, touch_erase, touch_erase_kids, touch_child, erase_touch, Part, find_lay, find_lay_kids, find_at, among}
use Rattle.model.proofs.StringLaws.{clash, bool_cases, eqb_cases, same_true, same_refl}
use Rattle.model.proofs.ItemLaws.{sum_app, slot_once}
use Rattle.model.proofs.MarkLaws.{find, weight_in, only, leaf_marks, prefix_marks, node_marks, kid_marks, tree_marks, bare_marks}
use Rattle.model.proofs.AlikeLaws.{slots_root}
use Rattle.model.proofs.ChainLaws.{find_atop, find_apart}

-- ---- what holds of every slot that a step touches

abbrev Each : (ℕ → Type 0) → List ℕ → Type 0
Each P ss = (s : ℕ) → among s ss ≡ true → P s

pub record Touches (P : ℕ → Type 0) (t : Touch) : Type 0 where
  pub goes : Each P t.goes
  pub rewrites : Each P t.rewrites

module _ (P : ℕ → Type 0) where
  each_none : Each P []
  each_none s h = clash (cc)

  each_cons : (a : ℕ) (ss : List ℕ) → P a → Each P ss → Each P (a ∷ ss)
  each_cons a ss p ps s h = eqb_cases s a (λ t e. rw e p) (λ t e. ps s (rw t at h))

  each_one : (a : ℕ) → P a → Each P (a ∷ [])
  each_one a p = each_cons a [] p each_none

  each_holder : (h : ℕ) → P h → Each P (holder h)
  each_holder zero p = each_none
  each_holder (suc h) p = each_one (suc h) p

  each_app : (ss rs : List ℕ) → Each P ss → Each P rs → Each P (ss ++ rs)
  each_app [] rs p q = q
  each_app (a ∷ ss) rs p q = each_cons a (ss ++ rs) (p a (rw (eq-eqb a a refl) refl)) (each_app ss rs (λ s h. p s (later s h)) q)
    where
      later : (s : ℕ) → among s ss ≡ true → among s (a ∷ ss) ≡ true
      later s h = bool_cases (eqb s a) (λ t. rw t refl) (λ t. rw t h)

  each_last : (ss : List ℕ) → Each P ss → Each P (last_of ss)
  each_last [] p = p
  each_last (a ∷ []) p = p
  each_last (a ∷ b ∷ ss) p = each_last (b ∷ ss) (λ s h. p s (bool_cases (eqb s a) (λ t. rw t refl) (λ t. rw t h)))

  either : {t u : Touch} (b : Bool) → (b ≡ true → Touches P t) → (b ≡ false → Touches P u) → Touches P (pick b t u)
  either true p q = p refl
  either false p q = q refl

  each_either : (b : Bool) (ss rs : List ℕ) → Each P ss → Each P rs → Each P (pick b ss rs)
  each_either true ss rs p q = p
  each_either false ss rs p q = q

touches_more : {P Q : ℕ → Type 0} {t : Touch} → ((s : ℕ) → P s → Q s) → Touches P t → Touches Q t
touches_more h T = record { goes = λ s g. h s (T.goes s g); rewrites = λ s g. h s (T.rewrites s g) }

-- ---- slot s, and not by the Leaf of key x

abbrev besides : List ℕ → ℕ → Mark → ℕ
besides x s m = pick (eqb m.slot s) (pick (eqb m.kind leaf_kind) (pick (same m.from x) 0 1) 1) 0

module _ (E : Edition) (k x : List ℕ) (apart : same k x ≡ false) where
  own_leaf : (s : ℕ) (k' : List ℕ) → same k k' ≡ true → besides x s (mark s leaf_kind k' k') ≡ 1
  own_leaf s k' t = let e = same_true k k' t in rw (← e) (rw (eq-eqb s s refl, apart) refl)

  own_prefix : (s : ℕ) (p q : List ℕ) → besides x s (mark s prefix_kind p q) ≡ 1
  own_prefix s p q = rw (eq-eqb s s refl) refl

  own_node : (s kind : ℕ) (p : List ℕ) → (kind ≡ leaf_kind → ⊥) → besides x s (mark s kind p p) ≡ 1
  own_node s kind p n = eqb_cases kind leaf_kind (λ t e. absurd (n e)) (λ t e. rw (eq-eqb s s refl, t) refl)

  module _ (f : List ℕ) where
    -- ---- put: the body that names the tree, or one of the tree's own

    abbrev Near : ℕ → List ℕ → Lay → ℕ → Type 0
    Near h p l s = (s ≡ h) ⊎ (1 ≤ count (besides x s) (marks p l))

    abbrev NearAll : ℕ → List ℕ → LayKids → ℕ → Type 0
    NearAll h p ks s = (s ≡ h) ⊎ (1 ≤ count (besides x s) (marks_all p ks))

    -- the Prefixes of a chain are the tree's own
    each_chain : (p : List ℕ) (l : Lay) → Each (λ s. 1 ≤ count (besides x s) (marks p l)) (chain_slots l)
    each_chain p (leaf s o e k' v) = each_none (λ u. 1 ≤ count (besides x u) (marks p (leaf s o e k' v)))
    each_chain p (prefix s o q l) =
        each_cons (λ u. 1 ≤ count (besides x u) (marks p (prefix s o q l))) s (chain_slots l) (omega (arith, prefix_marks (besides x s) p s o q l, own_prefix s p (p ++ q)))
        (λ u h. omega (arith, prefix_marks (besides x u) p s o q l, each_chain (p ++ q) l u h))
    each_chain p (node s o kind ks) = each_none (λ u. 1 ≤ count (besides x u) (marks p (node s o kind ks)))

    module _ (v : Value) where
      put_leaf_lem : (s o e : ℕ) (k' : List ℕ) (v' : Value) (h d : ℕ) (p : List ℕ) → Touches (Near h p (leaf s o e k' v')) (touch_put E (leaf s o e k' v') h d k v)
      put_leaf_lem s o e k' v' h d p =
          let P = Near h p (leaf s o e k' v') in
          either P (same k k')
          (λ t. record { goes = each_none P; rewrites = let own = each_one P s (inr (omega (arith, leaf_marks (besides x s) p s o e k' v', own_leaf s k' t))) in each_either P (eqb (length (text_of v)) (length (text_of v'))) (restamped E s) (s ∷ []) (each_either P (eqb E.stamps 1) [] (s ∷ []) (each_none P) own) own })
          (λ t. record { goes = each_none P; rewrites = each_holder P h (inl refl) })

      put_prefix : (s o : ℕ) (q : List ℕ) (l : Lay) (h d : ℕ) (p : List ℕ) → Touches (Near s (p ++ q) l) (touch_put E l s (d + length q) k v) → Touches (Near h p (prefix s o q l)) (touch_put E (prefix s o q l) h d k v)
      put_prefix s o q l h d p T =
          let P = Near h p (prefix s o q l) in
          let own : 1 ≤ count (besides x s) (marks p (prefix s o q l)) = omega (arith, prefix_marks (besides x s) p s o q l, own_prefix s p (p ++ q)) in
          let me : P s = inr own in
          let r = shared q (drop d (E.walked k)) in
          let n = length q + chain_long l in
          let rest : Each P (chain_slots l) = λ u i. inr (omega (arith, prefix_marks (besides x u) p s o q l, each_chain (p ++ q) l u i)) in
          let mine : Each P (s ∷ chain_slots l) = each_cons P s (chain_slots l) me rest in
          either P (eqb r (length q))
          (λ t. touches_more (λ u n. ⊎_elim (λ e. inr (rw e own)) (λ c. inr (omega (arith, prefix_marks (besides x u) p s o q l))) n) T)
          (λ t. either P (eqb r 0)
          (λ a. either P (ltb (chain (n - 1)) (chain n))
          (λ b. record { goes = each_one P s me; rewrites = each_app P (chain_slots l) (holder h) rest (each_holder P h (inl refl)) })
          (λ b. record { goes = each_none P; rewrites = each_app P (s ∷ chain_slots l) (holder h) mine (each_holder P h (inl refl)) }))
          (λ a. record { goes = each_none P; rewrites = mine }))

      put_node : (s o kind : ℕ) (ks : LayKids) (h d : ℕ) (p : List ℕ) → (kind ≡ leaf_kind → ⊥) → Touches (NearAll s p ks) (touch_put_kids E ks s d k v) → Touches (Near h p (node s o kind ks)) (touch_put E (node s o kind ks) h d k v)
      put_node s o kind ks h d p n T =
          let P = Near h p (node s o kind ks) in
          let own : 1 ≤ count (besides x s) (marks p (node s o kind ks)) = omega (arith, node_marks (besides x s) p s o kind ks, own_node s kind p n) in
          let me : P s = inr own in
          either P (has_byte (get_or (E.walked k) d 0) ks)
          (λ t. touches_more (λ u n. ⊎_elim (λ e. inr (rw e own)) (λ c. inr (omega (arith, node_marks (besides x u) p s o kind ks))) n) T)
          (λ t. either P (ltb (size ks) (most kind))
          (λ a. record { goes = each_none P; rewrites = each_one P s me })
          (λ a. record { goes = each_one P s me; rewrites = each_holder P h (inl refl) }))

      mutual
        unfolding Tree Trees

        touch_put_lem : (l : Lay) (h d : ℕ) (p : List ℕ) → Tree E f p l → Touches (Near h p l) (touch_put E l h d k v)
        touch_put_lem (leaf s o e k' v') h d p T = put_leaf_lem s o e k' v' h d p
        touch_put_lem (prefix s o q l) h d p T = put_prefix s o q l h d p (touch_put_lem l s (d + length q) (p ++ q) T.3)
        touch_put_lem (node s o kind ks) h d p T = put_node s o kind ks h d p (λ e. omega (arith, T.1.inner.range.0)) (touch_puts ks s d p T.2)

        touch_puts : (ks : LayKids) (h d : ℕ) (p : List ℕ) → Trees E f p ks → Touches (NearAll h p ks) (touch_put_kids E ks h d k v)
        touch_puts nil h d p T = record { goes = each_none (NearAll h p nil); rewrites = each_none (NearAll h p nil) }
        touch_puts (kid b j l ks) h d p T =
            either (NearAll h p (kid b j l ks)) (eqb b (get_or (E.walked k) d 0))
            (λ t. touches_more (λ s n. ⊎_elim (λ e. inl e) (λ c. inr (omega (arith, kid_marks (besides x s) p b j l ks))) n) (touch_put_lem l h (d + 1) (p ++ b ∷ []) T.0))
            (λ t. touches_more (λ s n. ⊎_elim (λ e. inl e) (λ c. inr (omega (arith, kid_marks (besides x s) p b j l ks))) n) (touch_puts ks h d p T.1))

      put_root : (r : Root) → RootAt E f r → Touches (λ s. (s ≡ 0) ⊎ (1 ≤ count (besides x s) (root_marks r))) (put_touch E r k v)
      unfolding RootAt
      put_root (bare s o) T =
          let P : ℕ → Type 0 = λ u. (u ≡ 0) ⊎ (1 ≤ count (besides x u) (root_marks (bare s o))) in
          record { goes = each_one P s (inr (omega (arith, bare_marks (besides x s) s o, own_node s empty_root_kind [] (λ e. omega arith)))); rewrites = each_none P }
      put_root (tree l) T = rw (tree_marks l) (touch_put_lem l 0 0 [] T)

    -- ---- erase: a body above, or one of the tree's own

    abbrev Up : Above → ℕ → Type 0
    Up (held h) s = s ≡ h
    Up (under q n u) s = (s ≡ q) ⊎ Up u s

    up_next : (u : Above) → Up u (next u)
    up_next (held h) = refl
    up_next (under q n u) = inl refl

    up_top : (u : Above) → Up u (top u)
    up_top (held h) = refl
    up_top (under q n u) = inr (up_top u)

    up_chain : (u : Above) → Each (Up u) (chain_above u)
    up_chain (held h) = each_none (Up (held h))
    up_chain (under q n u) = each_cons (Up (under q n u)) q (chain_above u) (inl refl) (λ s h. inr (up_chain u s h))

    abbrev Around : Above → List ℕ → Lay → ℕ → Type 0
    Around u p l s = Up u s ⊎ (1 ≤ count (besides x s) (marks p l))

    -- of a node of slot n with these children
    abbrev AroundAll : Above → ℕ → List ℕ → LayKids → ℕ → Type 0
    AroundAll u n p ks s = Up u s ⊎ ((s ≡ n) ⊎ (1 ≤ count (besides x s) (marks_all p ks)))

    module _ (P : ℕ → Type 0) (n g : ℕ) (pn : P n) (pg : P g) where
      two_go : Each P (g ∷ n ∷ [])
      two_go = each_cons P g (n ∷ []) pg (each_one P n pn)

      lone : (u : Above) (l : Lay) → ((s : ℕ) → Up u s → P s) → Each P (chain_slots l) → Touches P (touch_lone u n g l)
      lone (held h) (leaf c o e k' v) up pc = record { goes = two_go; rewrites = each_holder P h (up h refl) }
      lone (held h) (prefix c o q m) up pc = record { goes = two_go; rewrites = each_app P (c ∷ chain_slots m) (holder h) pc (each_holder P h (up h refl)) }
      lone (held h) (node c o kind ks) up pc = record { goes = two_go; rewrites = each_holder P h (up h refl) }
      lone (under q i u) (leaf c o e k' v) up pc = record {
        goes = each_cons P g (n ∷ q ∷ chain_above u) pg (each_cons P n (q ∷ chain_above u) pn (λ s h. up s (up_chain (under q i u) s h)));
        rewrites = each_holder P (top u) (up (top u) (inr (up_top u)));
      }
      lone (under q i u) (prefix c o q' m) up pc =
          let long = length q' + chain_long m in
          let last = pick (ltb (chain (i + suc long)) (suc (chain long))) (last_of (c ∷ chain_slots m)) [] in
          record {
            goes = each_cons P g (n ∷ last) pg (each_cons P n last pn (each_either P (ltb (chain (i + suc long)) (suc (chain long))) (last_of (c ∷ chain_slots m)) [] (each_last P (c ∷ chain_slots m) pc) (each_none P)));
            rewrites = each_cons P q (c ∷ chain_slots m) (up q (inl refl)) pc;
          }
      lone (under q i u) (node c o kind ks) up pc = record { goes = two_go; rewrites = each_one P q (up q (inl refl)) }

      lost : (u : Above) (kind : ℕ) (p : List ℕ) (ks : LayKids) → ((s : ℕ) → Up u s → P s) → ((c : ℕ) → 1 ≤ count (besides x c) (marks_all p ks) → P c) → Touches P (touch_lost u n kind g ks)
      lost u kind p nil up pc = record { goes = two_go; rewrites = each_none P }
      lost u kind p (kid b j l nil) up pc = lone u l up (λ c h. pc c (omega (arith, kid_marks (besides x c) p b j l nil, each_chain (p ++ b ∷ []) l c h)))
      lost u kind p (kid b j l (kid b' j' l' ks)) up pc =
          either P (eqb (size (kid b j l (kid b' j' l' ks))) (shrink_mark kind))
          (λ t. record { goes = two_go; rewrites = each_holder P (next u) (up (next u) (up_next u)) })
          (λ t. record { goes = each_one P g pg; rewrites = each_one P n pn })

    without_less : (w : Mark → ℕ) (p : List ℕ) (b : ℕ) (ks : LayKids) → count w (marks_all p (without b ks)) ≤ count w (marks_all p ks)
    without_less w p b nil = omega arith
    without_less w p b (kid c j l ks) = bool_cases (eqb b c)
        (λ t. rw t (omega (arith, kid_marks w p c j l ks)))
        (λ t. rw t (omega (arith, kid_marks w p c j l ks, kid_marks w p c j l (without b ks), without_less w p b ks)))

    -- the key is found: its Leaf stands at the end of its path
    found_leaf : (s o e : ℕ) (k' : List ℕ) (v' : Value) (d : ℕ) (c : Part) → find_lay E (leaf s o e k' v') d k ≡ some c → same k k' ≡ true
    found_leaf s o e k' v' d c h = bool_cases (same k k') (λ t. t) (λ t. let z : none ≡ some c = rw t at h in clash (cc))

    module _ (c : Part) where
      mutual
        unfolding Tree Trees

        touch_erase_lem : (l : Lay) (u : Above) (d : ℕ) (p : List ℕ) → Tree E f p l → find_lay E l d k ≡ some c → Touches (Around u p l) (touch_erase E l u d k)
        touch_erase_lem (leaf s o e k' v') u d p T h =
            let P = Around u p (leaf s o e k' v') in
            record { goes = each_one P s (inr (omega (arith, leaf_marks (besides x s) p s o e k' v', own_leaf s k' (found_leaf s o e k' v' d c h)))); rewrites = each_none P }
        touch_erase_lem (prefix s o q l) u d p T h = bool_cases (eqb (shared q (drop d (E.walked k))) (length q))
            (λ t. touches_more
            (λ i n. ⊎_elim
            (λ a. ⊎_elim (λ e. inr (rw e (omega (arith, prefix_marks (besides x s) p s o q l, own_prefix s p (p ++ q))))) (λ e. inl e) a)
            (λ a. inr (omega (arith, prefix_marks (besides x i) p s o q l))) n)
            (touch_erase_lem l (under s (length q) u) (d + length q) (p ++ q) T.3 (rw t at h)))
            (λ t. let z : none ≡ some c = rw t at h in clash (cc))
        touch_erase_lem (node s o kind ks) u d p T h =
            touches_more
            (λ i n. ⊎_elim (λ a. inl a)
            (λ a. ⊎_elim (λ e. inr (rw e (omega (arith, node_marks (besides x s) p s o kind ks, own_node s kind p (λ e. omega (arith, T.1.inner.range.0)))))) (λ e. inr (omega (arith, node_marks (besides x i) p s o kind ks))) a) n)
            (touch_erases ks u s kind ks d p T.2 h (λ w. omega arith))

        touch_erases : (ks : LayKids) (u : Above) (n kind : ℕ) (all : LayKids) (d : ℕ) (p : List ℕ) → Trees E f p ks → find_lay_kids E ks d k ≡ some c → ((w : Mark → ℕ) → count w (marks_all p ks) ≤ count w (marks_all p all))
            → Touches (AroundAll u n p all) (touch_erase_kids E ks u n kind all d k)
        touch_erases nil u n kind all d p T h le = record { goes = each_none (AroundAll u n p all); rewrites = each_none (AroundAll u n p all) }
        touch_erases (kid b j l ks) u n kind all d p T h le =
            either (AroundAll u n p all) (eqb b (get_or (E.walked k) d 0))
            (λ t. touch_child_lem l u n kind b all d p T.0 (rw t at h) (λ w. omega (arith, le w, kid_marks w p b j l ks)))
            (λ t. touch_erases ks u n kind all d p T.1 (rw t at h) (λ w. omega (arith, le w, kid_marks w p b j l ks)))

        touch_child_lem : (l : Lay) (u : Above) (n kind b : ℕ) (all : LayKids) (d : ℕ) (p : List ℕ) → Tree E f (p ++ b ∷ []) l → find_lay E l (d + 1) k ≡ some c → ((w : Mark → ℕ) → count w (marks (p ++ b ∷ []) l) ≤ count w (marks_all p all))
            → Touches (AroundAll u n p all) (touch_child E l u n kind (without b all) d k)
        touch_child_lem (leaf g o e k' v') u n kind b all d p T h le =
            lost (AroundAll u n p all) n g (inr (inl refl))
            (inr (inr (omega (arith, le (besides x g), leaf_marks (besides x g) (p ++ b ∷ []) g o e k' v', own_leaf g k' (found_leaf g o e k' v' (d + 1) c h)))))
            u kind p (without b all) (λ s a. inl a) (λ i a. inr (inr (omega (arith, without_less (besides x i) p b all))))
        touch_child_lem (prefix s o q l) u n kind b all d p T h le = bool_cases (eqb (shared q (drop (d + 1) (E.walked k))) (length q))
            (λ t. touches_more
            (λ i a. ⊎_elim
            (λ e. ⊎_elim (λ e. inr (inr (rw e (omega (arith, le (besides x s), prefix_marks (besides x s) (p ++ b ∷ []) s o q l, own_prefix s (p ++ b ∷ []) ((p ++ b ∷ []) ++ q)))))) (λ e. inr (inl e)) e)
            (λ e. inr (inr (omega (arith, le (besides x i), prefix_marks (besides x i) (p ++ b ∷ []) s o q l)))) a)
            (touch_erase_lem l (under s (length q) (held n)) (d + 1 + length q) ((p ++ b ∷ []) ++ q) T.3 (rw t at h)))
            (λ t. let z : none ≡ some c = rw t at h in clash (cc))
        touch_child_lem (node s o kind' ks) u n kind b all d p T h le =
            touches_more
            (λ i a. ⊎_elim (λ e. inr (inl e))
            (λ e. ⊎_elim
            (λ e. inr (inr (rw e (omega (arith, le (besides x s), node_marks (besides x s) (p ++ b ∷ []) s o kind' ks, own_node s kind' (p ++ b ∷ []) (λ e. omega (arith, T.1.inner.range.0)))))))
            (λ e. inr (inr (omega (arith, le (besides x i), node_marks (besides x i) (p ++ b ∷ []) s o kind' ks)))) e) a)
            (touch_erases ks (held n) s kind' ks (d + 1) (p ++ b ∷ []) T.2 h (λ w. omega arith))

      erase_root : (r : Root) → RootAt E f r → find_at E r k ≡ some c → Touches (λ s. (s ≡ 0) ⊎ (1 ≤ count (besides x s) (root_marks r))) (erase_touch E r k)
      unfolding RootAt
      erase_root (bare s o) T h = clash (cc)
      erase_root (tree l) T h = rw (tree_marks l) (touch_erase_lem l (held 0) 0 [] T h)

  -- ---- so the Leaf of x is not touched

  module _ (r : Root) (s : ℕ) (there : In (mark s leaf_kind x x) (root_marks r)) (once : count (slot_is s) (root_marks r) ≤ 1) (some' : 1 ≤ s) where
    not_besides : 1 ≤ count (besides x s) (root_marks r) → ⊥
    not_besides h =
        let F = find (besides x s) (root_marks r) h in
        let m = F.mark in
        let own : slot_is s (mark s leaf_kind x x) ≡ 1 = rw (eq-eqb s s refl) refl in
        let e : m.slot ≡ s = eqb_cases m.slot s (λ t e. e) (λ t e. let z : 1 ≤ 0 = rw t at F.weighs in absurd (omega arith)) in
        let its : slot_is s m ≡ 1 = rw (eq-eqb m.slot s e) refl in
        let same_mark : m ≡ mark s leaf_kind x x = only (slot_is s) (root_marks r) once m (mark s leaf_kind x x) F.there there (omega arith) (omega arith) in
        let z : besides x s m ≡ 0 = ap (besides x s) same_mark ∙ none_self in
        omega (arith, F.weighs)
      where
        none_self : besides x s (mark s leaf_kind x x) ≡ 0
        none_self = rw (eq-eqb s s refl, same_refl x) refl

    pub untouched : (t : Touch) → Touches (λ u. (u ≡ 0) ⊎ (1 ≤ count (besides x u) (root_marks r))) t → among s (t.goes ++ t.rewrites) ≡ false
    untouched t T = bool_cases (among s (t.goes ++ t.rewrites)) (λ h. absurd (⊎_elim (no_one (T.goes s)) (no_one (T.rewrites s)) (split t.goes h))) (λ h. h)
      where
        split : (gs : List ℕ) → among s (gs ++ t.rewrites) ≡ true → (among s gs ≡ true) ⊎ (among s t.rewrites ≡ true)
        split [] h = inr h
        split (g ∷ gs) h = bool_cases (eqb s g) (λ a. inl (rw a refl)) (λ a. ⊎_elim (λ b. inl (rw a b)) (λ b. inr b) (split gs (rw a at h)))

        no_one : {A : Type 0} → (A → (s ≡ 0) ⊎ (1 ≤ count (besides x s) (root_marks r))) → A → ⊥
        no_one g a = ⊎_elim (λ e. omega arith) (λ e. not_besides e) (g a)

-- ---- an erase that is done has found its key

module _ (E : Edition) (k : List ℕ) where
  mutual
    lay_none : (l : Lay) (d : ℕ) → find_lay E l d k ≡ none → find_tree E (art l) d k ≡ none
    lay_none (leaf s o e k' v') d h = bool_cases (same k k') (λ t. let z : some (record { at = e + length k'; long = length (text_of v'); stamp = v'.stamp }) ≡ none = rw t at h in clash (cc)) (λ t. rw t refl)
    lay_none (prefix s o q l) d h =
        eqb_cases (shared q (drop d (E.walked k))) (length q) (λ t e. find_atop E q (art l) d k e ∙ lay_none l (d + length q) (rw t at h)) (λ t n. find_apart E q (art l) d k n)
    lay_none (node s o kind ks) d h = lays_none ks d h

    lays_none : (ks : LayKids) (d : ℕ) → find_lay_kids E ks d k ≡ none → find_kids E (art_kids ks) d k ≡ none
    lays_none nil d h = refl
    lays_none (kid b j l ks) d h = bool_cases (eqb b (get_or (E.walked k) d 0)) (λ t. rw t (lay_none l (d + 1) (rw t at h))) (λ t. rw t (lays_none ks d (rw t at h)))

  root_none : (r : Root) → find_at E r k ≡ none → find_in E (root_art r) k ≡ none
  root_none (bare s o) h = refl
  root_none (tree l) h = lay_none l 0 h

  absent8 : (s : State) (t : Option Art) → find_in E t k ≡ none → (erase_in E s k t).answer ≡ 8
  absent8 s none h = refl
  absent8 s (some a) h = ap (λ (z : Option Value). (erase_found E s k a z).answer) h

  pub erase_found_lem : {f : List ℕ} {st : State} (w : Stands E f st) → (on_erase E st k).answer ≡ 0 → (c : Part) × (find_at E w.root k ≡ some c)
  erase_found_lem {f} {st} w h = go (find_at E w.root k) refl
    where
      go : (c : Option Part) → find_at E w.root k ≡ c → (c : Part) × (find_at E w.root k ≡ some c)
      go (some c) e = (c, e)
      go none e =
          let t : st.tree ≡ root_art w.root = ap (λ (z : State). z.tree) w.state in
          let q : (erase_in E st k st.tree).answer ≡ 8 = absent8 st st.tree (ap (λ (z : Option Art). find_in E z k) t ∙ root_none w.root e) in
          absurd (eqb_cases (E.key_fault k) 0
          (λ u i. let z : (erase_in E st k st.tree).answer ≡ 0 = rw u at h in omega arith)
          (λ u i. let z : E.key_fault k ≡ 0 = rw u at h in i z))

-- ---- put and erase

module _ {E : Edition} {f : List ℕ} {st : State} (w : Stands E f st) (k x : List ℕ) (apart : same k x ≡ false) (s : ℕ) (there : In (mark s leaf_kind x x) (root_marks w.root)) where
  slots_of : (u : ℕ) → count (slot_is u) (root_marks w.root) + sum (on_slot u) (freed 1 w.lists) ≡ sum (on_slot u) (root_items w.root ++ freed 1 w.lists)
  slots_of u = omega (arith, slots_root u w.root, sum_app (on_slot u) (root_items w.root) (freed 1 w.lists))

  given : 1 ≤ count (slot_is s) (root_marks w.root)
  given = weight_in (slot_is s) (root_marks w.root) (mark s leaf_kind x x) there (let e : slot_is s (mark s leaf_kind x x) ≡ 1 = rw (eq-eqb s s refl) refl in omega arith)

  no_zero : 1 ≤ s
  no_zero = elim (dec_le 1 s) [ yes h ↦ h | no h ↦ let z : s ≡ 0 = omega arith in let g : 1 ≤ count (slot_is 0) (root_marks w.root) = rw z at given in absurd (omega (arith, slots_of 0, w.heap.sound.zeroth)) ]

  not_listed : (t : Touch) → Touches (λ u. (u ≡ 0) ⊎ (1 ≤ count (besides x u) (root_marks w.root))) t → among s (t.goes ++ t.rewrites) ≡ false
  not_listed = untouched E k x apart w.root s there (omega (arith, slots_of s, slot_once w.heap.sound s)) no_zero

  -- neither a put nor an erase of k that is done frees or rewrites the Leaf of x
  pub put_others : (v : Value) → let t = put_touch E w.root k v in among s (t.goes ++ t.rewrites) ≡ false
  put_others v = not_listed (put_touch E w.root k v) (put_root E k x apart f v w.root w.root_at)

  pub erase_others : (on_erase E st k).answer ≡ 0 → let t = erase_touch E w.root k in among s (t.goes ++ t.rewrites) ≡ false
  erase_others h = let F = erase_found_lem E k w h in not_listed (erase_touch E w.root k) (erase_root E k x apart f F.0 w.root w.root_at F.1)
