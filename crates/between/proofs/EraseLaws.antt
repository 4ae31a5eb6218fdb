-- Erase of a key that leads to a hole: a node in the hole loses a Leaf, and what is left of it closes in the hole, or with the Prefix or
-- the node just above. What an erase touches. Assumes nothing.
use Prim.Native.Nat.{ℕ, ◌+◌, ◌-◌, ◌≤◌}
use mathlib.Core.Path.{◌≡◌, refl, sym, ap, ◌∙◌}
use mathlib.Core.List.{List, [], ◌∷◌}
use mathlib.Core.Bool.{true, false}
use mathlib.Core.Option.{some}
use native.Mathlib.Omega.{arith}
use lib.ListN.{length, get_or, drop}
use lib.Dec.{eqb}
use borrow.Author.Tests.{eq-eqb, ne_eqb}
use Rattle.layout.specs.Kind.{leaf_kind, shrink_mark, kind_down}
use Rattle.model.specs.Strings.{pick, same, shared}
use Rattle.model.specs.Edition.{Edition, Value}
use Rattle.model.specs.Tree.{Art, Kids, is_inner, count, has, carried, find_tree, extent_of, Change, over, Left, LeftKids, less_one, lone_child, under_prefix, close, close_under, after_kids, cons_kid, from_child, erase_tree, erase_kids}
use Rattle.model.specs.Tree.Left.{gone, one, kept}
use Rattle.model.specs.Tree.LeftKids.{fewer, still}
use Rattle.model.specs.State.{State, done, room, after, erase_change, erase_done, erase_found, erase_in, call_erase}
use Rattle.model.specs.Frame.{Lay, LayKids, art_kids}
use Rattle.model.specs.Frame.Lay.{leaf, prefix, node}
use Rattle.model.specs.Frame.LayKids.{nil, kid}
use Rattle.model.specs.Touch.{touch, holder, size, Above, held, next, has_byte, without, touch_erase, touch_erase_kids, touch_child, touch_lost}
use Rattle.model.proofs.ChainLaws.{inner_atop, erase_atop}
use Rattle.between.specs.Hole.{app, Step, under, among, plug1, plug, step_path, path_of, app_kids, art_step, art_in}
use Rattle.between.specs.Lead.{Leads, above_of, NotLeaf, NotUnder}
use Rattle.between.proofs.KidsLaws.{has_is, app_without, not_byte}
use Rattle.between.proofs.LeadLaws.{Takes, TakesAll, Hangs1, HangsIn, leads_takes, other_byte, path_length}

-- a change with another result
abbrev pub with_now : {A B : Type 0} → B → Change A → Change B
with_now b c = over (λ x. b) c

now_same : {A : Type 0} (c : Change A) (a : A) → c.now ≡ a → c ≡ with_now a c
now_same {A} c a e = go c.now e
  where
    go : (x : A) → x ≡ a → ◌≡◌ {A = Change A} (record { now = x; takes = c.takes; frees = c.frees; extent = c.extent; dead = c.dead; fresh = c.fresh }) (with_now a c)
    go x e = rw e refl

-- ---- what is left closes

under_one : (p : List ℕ) (b : ℕ) (a : Art) (l : Left) (c : Change Left) → l ≡ one b a → close_under p l c ≡ under_prefix p b a c
under_one p b a l c e = rw e refl

pub close_kept : (a : Art) (l : Left) (c : Change Left) → l ≡ kept a → close l c ≡ c
close_kept a l c e = rw e refl

pub close_one : (b : ℕ) (a : Art) (l : Left) (c : Change Left) → l ≡ one b a → close l c ≡ lone_child b a c
close_one b a l c e = rw e refl

from_kept : (b j : ℕ) (rs : Kids) (a : Art) (l : Left) (c : Change Left) → l ≡ kept a → over (λ x. from_child b j rs l) c ≡ with_now (still (Kids.kid b j a rs)) c
from_kept b j rs a l c e = rw e refl

-- ---- a node after one of its children went

pub less_stays : (kind : ℕ) (ks : Kids) (c : Change Left) → 2 ≤ count ks → (count ks ≡ shrink_mark kind → ⊥)
    → less_one kind ks c ≡ record { now = kept (Art.node kind ks); takes = c.takes; frees = c.frees; extent = 0; dead = c.dead; fresh = false }
less_stays kind Kids.nil c h n = absurd (omega arith)
less_stays kind (Kids.kid b j a Kids.nil) c h n = absurd (omega arith)
less_stays kind (Kids.kid b j a (Kids.kid b' j' a' ks)) c h n = rw (ne_eqb (count (Kids.kid b j a (Kids.kid b' j' a' ks))) (shrink_mark kind) n) refl

pub less_shrinks : (kind : ℕ) (ks : Kids) (c : Change Left) → 2 ≤ count ks → count ks ≡ shrink_mark kind
    → less_one kind ks c ≡ record { now = kept (Art.node (kind_down kind) (carried (kind_down kind) ks)); takes = kind_down kind ∷ c.takes; frees = kind ∷ c.frees; extent = 0; dead = c.dead; fresh = false }
less_shrinks kind Kids.nil c h n = absurd (omega arith)
less_shrinks kind (Kids.kid b j a Kids.nil) c h n = absurd (omega arith)
less_shrinks kind (Kids.kid b j a (Kids.kid b' j' a' ks)) c h n = rw (eq-eqb (count (Kids.kid b j a (Kids.kid b' j' a' ks))) (shrink_mark kind) n) refl

pub lost_stays : (u : Above) (s kind g : ℕ) (ks : LayKids) → 2 ≤ size ks → (size ks ≡ shrink_mark kind → ⊥) → touch_lost u s kind g ks ≡ touch (s ∷ []) (g ∷ [])
lost_stays u s kind g nil h n = absurd (omega arith)
lost_stays u s kind g (kid b j l nil) h n = absurd (omega arith)
lost_stays u s kind g (kid b j l (kid b' j' l' ks)) h n = rw (ne_eqb (size (kid b j l (kid b' j' l' ks))) (shrink_mark kind) n) refl

pub lost_shrinks : (u : Above) (s kind g : ℕ) (ks : LayKids) → 2 ≤ size ks → size ks ≡ shrink_mark kind → touch_lost u s kind g ks ≡ touch (holder (next u)) (g ∷ s ∷ [])
lost_shrinks u s kind g nil h n = absurd (omega arith)
lost_shrinks u s kind g (kid b j l nil) h n = absurd (omega arith)
lost_shrinks u s kind g (kid b j l (kid b' j' l' ks)) h n = rw (eq-eqb (size (kid b j l (kid b' j' l' ks))) (shrink_mark kind) n) refl

-- the call, once the change is known and the record is not the only one
done_kept : (st : State) (c : Change Left) (a : Art) → (st.R ≡ 1 → ⊥) → c.now ≡ kept a → erase_done st c ≡ pick (room st c) (done 0 (after st c (st.R - 1) (some a))) (done 6 st)
done_kept st c a n e = rw (ne_eqb st.R 1 n, e) refl

pub erase_is : (E : Edition) (st : State) (k : List ℕ) (v : Value) (a a' : Art) (c : Change Left) → st.tree ≡ some a → find_tree E a 0 k ≡ some v → erase_change E a k ≡ c → c.now ≡ kept a' → (st.R ≡ 1 → ⊥)
    → call_erase E st k ≡ pick (room st c) (done 0 (after st c (st.R - 1) (some a'))) (done 6 st)
erase_is E st k v a a' c et ef ec en n = ap (erase_in E st k) et ∙ ap (erase_found E st k a) ef ∙ ap (erase_done st) ec ∙ done_kept st c a' n en

-- ---- among the children of a node: the key's byte at depth d is b, and no child of ls has it

module _ (E : Edition) (k : List ℕ) (d b j : ℕ) (e : get_or (E.walked k) d 0 ≡ b) where
  -- the child is changed
  kids_kept : (a a' : Art) (c : Change Left) (ls rs : Kids) → (let x = erase_tree E a (d + 1) k in close x.now x ≡ c) → c.now ≡ kept a' → has b ls ≡ false
      → erase_kids E (app_kids ls (Kids.kid b j a rs)) d k ≡ with_now (still (app_kids ls (Kids.kid b j a' rs))) c
  unfolding app_kids
  kids_kept a a' c Kids.nil rs q n h = rw (eq-eqb b (get_or (E.walked k) d 0) (sym e), q) (from_kept b j rs a' c.now c n)
  kids_kept a a' c (Kids.kid x i y ls) rs q n h = rw (other_byte E k d b j e x (has b ls) h) (ap (over (λ xs. cons_kid x i y xs)) (kids_kept a a' c ls rs q n (not_byte b x (has b ls) h).1))

  -- the child is the key's Leaf, and goes
  kids_gone : (k' : List ℕ) (v' : Value) (ls rs : Kids) → same k k' ≡ true → has b ls ≡ false → erase_kids E (app_kids ls (Kids.kid b j (Art.leaf k' v') rs)) d k
      ≡ record { now = fewer (app_kids ls rs); takes = []; frees = leaf_kind ∷ []; extent = 0; dead = extent_of k' v'; fresh = false }
  unfolding app_kids
  kids_gone k' v' Kids.nil rs q h = rw (eq-eqb b (get_or (E.walked k) d 0) (sym e), q) refl
  kids_gone k' v' (Kids.kid x i y ls) rs q h = rw (other_byte E k d b j e x (has b ls) h) (ap (over (λ xs. cons_kid x i y xs)) (kids_gone k' v' ls rs q (not_byte b x (has b ls) h).1))

  pub node_erase : (kind : ℕ) (k' : List ℕ) (v' : Value) (ls rs : LayKids) → same k k' ≡ true → has_byte b ls ≡ false
      → erase_tree E (Art.node kind (app_kids (art_kids ls) (Kids.kid b j (Art.leaf k' v') (art_kids rs)))) d k
      ≡ less_one kind (app_kids (art_kids ls) (art_kids rs)) (record { now = gone; takes = []; frees = leaf_kind ∷ []; extent = 0; dead = extent_of k' v'; fresh = false })
  node_erase kind k' v' ls rs q h = ap (λ (c : Change LeftKids). after_kids kind c.now c) (kids_gone k' v' (art_kids ls) (art_kids rs) q (has_is b ls ∙ h))

  node_kept : (kind : ℕ) (a a' : Art) (c : Change Left) (ls rs : LayKids) → (let x = erase_tree E a (d + 1) k in close x.now x ≡ c) → c.now ≡ kept a' → has_byte b ls ≡ false
      → erase_tree E (Art.node kind (app_kids (art_kids ls) (Kids.kid b j a (art_kids rs)))) d k ≡ with_now (kept (Art.node kind (app_kids (art_kids ls) (Kids.kid b j a' (art_kids rs))))) c
  node_kept kind a a' c ls rs q n h = ap (λ (c : Change LeftKids). after_kids kind c.now c) (kids_kept a a' c (art_kids ls) (art_kids rs) q n (has_is b ls ∙ h))

-- ---- through the steps

module _ (E : Edition) (k : List ℕ) where
  step_erase : (x : Step) (a a' : Art) (c : Change Left) (d : ℕ) → Hangs1 x a → Hangs1 x a' → Takes E k d x → erase_tree E a (d + length (step_path x)) k ≡ c → c.now ≡ kept a' → erase_tree E (art_step x a) d k ≡ with_now (kept (art_step x a')) c
  unfolding art_step Takes step_path Hangs1
  step_erase (under s o p) a a' c d g g' h q n = erase_atop E p a a' d k c g g' h q n
  step_erase (among s o kind ls b j rs) a a' c d g g' h q n =
      node_kept E k d b j h.0 kind a a' c ls rs (ap (λ (x : Change Left). close x.now x) q ∙ close_kept a' c.now c n) n h.1

  all_erase : (xs : List Step) (a a' : Art) (c : Change Left) → HangsIn xs a → HangsIn xs a' → TakesAll E k xs → erase_tree E a (length (path_of xs)) k ≡ c → c.now ≡ kept a' → erase_tree E (art_in xs a) 0 k ≡ with_now (kept (art_in xs a')) c
  unfolding art_in path_of TakesAll HangsIn
  all_erase [] a a' c g g' h q n = q ∙ now_same c (kept a') n
  all_erase (x ∷ xs) a a' c g g' h q n =
      all_erase xs (art_step x a) (art_step x a') (with_now (kept (art_step x a')) c) g.1 g'.1 h.1
      (step_erase x a a' c (length (path_of xs)) g.0 g'.0 h.0 (ap (λ m. erase_tree E a m k) (sym (path_length x xs)) ∙ q) n) refl

  all_change : (xs : List Step) (a a' : Art) (c : Change Left) → HangsIn xs a → HangsIn xs a' → TakesAll E k xs → erase_tree E a (length (path_of xs)) k ≡ c → c.now ≡ kept a' → erase_change E (art_in xs a) k ≡ with_now (kept (art_in xs a')) c
  all_change xs a a' c g g' h q n = ap (λ (x : Change Left). close x.now x) (all_erase xs a a' c g g' h q n)

  -- with one child left, and no Prefix above
  all_lone : (xs : List Step) (a : Art) (b : ℕ) (a0 a' : Art) (c : Change Left) → NotUnder xs → HangsIn xs a → HangsIn xs a' → TakesAll E k xs → erase_tree E a (length (path_of xs)) k ≡ c → c.now ≡ one b a0 → (lone_child b a0 c).now ≡ kept a'
      → erase_change E (art_in xs a) k ≡ with_now (kept (art_in xs a')) (lone_child b a0 c)
  unfolding art_in path_of TakesAll Takes step_path art_step HangsIn
  all_lone [] a b a0 a' c u g g' h q n m = ap (λ (x : Change Left). close x.now x) q ∙ close_one b a0 c.now c n ∙ now_same (lone_child b a0 c) (kept a') m
  all_lone (under s o p ∷ xs) a b a0 a' c u g g' h q n m = absurd u
  all_lone (among s o kind ls y j rs ∷ xs) a b a0 a' c u g g' h q n m =
      let d = length (path_of xs) in
      let q' : erase_tree E a (d + 1) k ≡ c = ap (λ i. erase_tree E a i k) (sym (path_length (among s o kind ls y j rs) xs)) ∙ q in
      let c' = lone_child b a0 c in
      all_change xs (art_step (among s o kind ls y j rs) a) (art_step (among s o kind ls y j rs) a') (with_now (kept (art_step (among s o kind ls y j rs) a')) c') g.1 g'.1 h.1
      (node_kept E k d y j h.0.0 kind a a' c' ls rs (ap (λ (x : Change Left). close x.now x) q' ∙ close_one b a0 c.now c n) m h.0.1) refl

  -- with one child left, under a Prefix
  all_under : (s o : ℕ) (p : List ℕ) (xs : List Step) (a : Art) (b : ℕ) (a0 a' : Art) (c : Change Left) → is_inner a ≡ true → HangsIn xs (Art.prefix p a) → HangsIn xs a' → TakesAll E k (under s o p ∷ xs) → erase_tree E a (length (path_of (under s o p ∷ xs))) k ≡ c → c.now ≡ one b a0
      → (under_prefix p b a0 c).now ≡ kept a' → erase_change E (art_in (under s o p ∷ xs) a) k ≡ with_now (kept (art_in xs a')) (under_prefix p b a0 c)
  unfolding art_in path_of TakesAll Takes step_path art_step
  all_under s o p xs a b a0 a' c i g g' h q n m =
      let d = length (path_of xs) in
      let q' : erase_tree E a (d + length p) k ≡ c = ap (λ i. erase_tree E a i k) (sym (path_length (under s o p) xs)) ∙ q in
      let t : eqb (shared p (drop d (E.walked k))) (length p) ≡ true = eq-eqb (shared p (drop d (E.walked k))) (length p) h.0 in
      let z : erase_tree E (Art.prefix p a) d k ≡ under_prefix p b a0 c = rw (t, q') (under_one p b a0 c.now c n) in
      ap (λ (x : Art). erase_change E (art_in xs x) k) (sym (inner_atop p a i)) ∙ all_change xs (Art.prefix p a) a' (under_prefix p b a0 c) g g' h.1 z m

module _ {E : Edition} {k : List ℕ} {xs : List Step} {r : List ℕ} (L : Leads E k xs r) where
  pub plug_erase : (a a' : Art) (c : Change Left) → HangsIn xs a → HangsIn xs a' → erase_tree E a (length (path_of xs)) k ≡ c → c.now ≡ kept a' → erase_change E (art_in xs a) k ≡ with_now (kept (art_in xs a')) c
  plug_erase a a' c g g' q n = all_change E k xs a a' c g g' (leads_takes L) q n

  pub plug_lone : (a : Art) (b : ℕ) (a0 a' : Art) (c : Change Left) → NotUnder xs → HangsIn xs a → HangsIn xs a' → erase_tree E a (length (path_of xs)) k ≡ c → c.now ≡ one b a0 → (lone_child b a0 c).now ≡ kept a'
      → erase_change E (art_in xs a) k ≡ with_now (kept (art_in xs a')) (lone_child b a0 c)
  plug_lone a b a0 a' c u g g' q n m = all_lone E k xs a b a0 a' c u g g' (leads_takes L) q n m

pub plug_under_lone : {E : Edition} {k : List ℕ} {s o : ℕ} {p : List ℕ} {xs : List Step} {r : List ℕ} → Leads E k (under s o p ∷ xs) r → (a : Art) (b : ℕ) (a0 a' : Art) (c : Change Left)
    → is_inner a ≡ true → HangsIn xs (Art.prefix p a) → HangsIn xs a' → erase_tree E a (length (path_of (under s o p ∷ xs))) k ≡ c → c.now ≡ one b a0 → (under_prefix p b a0 c).now ≡ kept a' → erase_change E (art_in (under s o p ∷ xs) a) k ≡ with_now (kept (art_in xs a')) (under_prefix p b a0 c)
plug_under_lone {E} {k} {s} {o} {p} {xs} L a b a0 a' c i g g' q n m = all_under E k s o p xs a b a0 a' c i g g' (leads_takes L) q n m

-- ---- what an erase touches

not_leaf : (x : Step) (t : Lay) → NotLeaf (plug1 x t)
unfolding plug1
not_leaf (under s o p) t = tt
not_leaf (among s o kind ls b j rs) t = tt

module _ (E : Edition) (k : List ℕ) where
  -- at the child of the key's byte
  touch_app : (d b j : ℕ) (t : Lay) (ls rs : LayKids) (u : Above) (s kind : ℕ) (all : LayKids) → get_or (E.walked k) d 0 ≡ b → has_byte b ls ≡ false
      → touch_erase_kids E (app ls (kid b j t rs)) u s kind all d k ≡ touch_child E t u s kind (without b all) d k
  unfolding app
  touch_app d b j t nil rs u s kind all e h = rw (eq-eqb b (get_or (E.walked k) d 0) (sym e)) refl
  touch_app d b j t (kid c i y ls) rs u s kind all e h =
      let n = not_byte b c (has_byte b ls) h in
      rw (ne_eqb c (get_or (E.walked k) d 0) (λ q. n.0 (q ∙ e))) (touch_app d b j t ls rs u s kind all e n.1)

  -- a child that is no Leaf
  touch_child_lem : (t : Lay) (u : Above) (s kind : ℕ) (rest : LayKids) (d : ℕ) → NotLeaf t → touch_child E t u s kind rest d k ≡ touch_erase E t (held s) (d + 1) k
  touch_child_lem (leaf n o e k' v') u s kind rest d h = absurd h
  touch_child_lem (prefix n o p l) u s kind rest d h = refl
  touch_child_lem (node n o kind' ks) u s kind rest d h = refl

  step_touch : (x : Step) (t : Lay) (xs : List Step) (d : ℕ) → NotLeaf t → Takes E k d x → touch_erase E (plug1 x t) (above_of xs) d k ≡ touch_erase E t (above_of (x ∷ xs)) (d + length (step_path x)) k
  unfolding plug1 Takes step_path
  step_touch (under s o p) t xs d n h = refl
  step_touch (among s o kind ls b j rs) t xs d n h = touch_app d b j t ls rs (above_of xs) s kind (app ls (kid b j t rs)) h.0 h.1 ∙ touch_child_lem t (above_of xs) s kind (without b (app ls (kid b j t rs))) d n

  all_touch : (xs : List Step) (t : Lay) → NotLeaf t → TakesAll E k xs → touch_erase E (plug xs t) (held 0) 0 k ≡ touch_erase E t (above_of xs) (length (path_of xs)) k
  unfolding plug path_of TakesAll
  all_touch [] t n h = refl
  all_touch (x ∷ xs) t n h =
      all_touch xs (plug1 x t) (not_leaf x t) h.1 ∙ step_touch x t xs (length (path_of xs)) n h.0 ∙ ap (λ m. touch_erase E t (above_of (x ∷ xs)) m k) (sym (path_length x xs))

  -- at the node that loses the Leaf
  pub node_touch : (d b j : ℕ) (g o' e' : ℕ) (k' : List ℕ) (v' : Value) (ls rs : LayKids) (u : Above) (s o kind : ℕ) → get_or (E.walked k) d 0 ≡ b → has_byte b ls ≡ false
      → touch_erase E (node s o kind (app ls (kid b j (leaf g o' e' k' v') rs))) u d k ≡ touch_lost u s kind g (app ls rs)
  node_touch d b j g o' e' k' v' ls rs u s o kind e h =
      touch_app d b j (leaf g o' e' k' v') ls rs u s kind (app ls (kid b j (leaf g o' e' k' v') rs)) e h ∙ ap (touch_lost u s kind g) (app_without b j (leaf g o' e' k' v') ls rs h)

pub plug_erase_touch : {E : Edition} {k : List ℕ} {xs : List Step} {r : List ℕ} → Leads E k xs r → (t : Lay) → NotLeaf t → touch_erase E (plug xs t) (held 0) 0 k ≡ touch_erase E t (above_of xs) (length (path_of xs)) k
plug_erase_touch {E} {k} {xs} L t n = all_touch E k xs t n (leads_takes L)
