-- Put and look-up of a key that leads to a hole happen in the hole: in the model's tree, in the tree with its places, and in what a put
-- touches. Assumes nothing.
use Prim.Native.Nat.{ℕ, ◌+◌, ◌-◌, ◌<◌, ◌≤◌}
use mathlib.Core.Path.{◌≡◌, refl, sym, ap, ◌∙◌}
use mathlib.Core.List.{List, [], ◌∷◌, ◌++◌, append_assoc}
use mathlib.Core.Bool.{Bool, true, false}
use mathlib.Core.Option.{some}
use native.Mathlib.Omega.{arith}
use lib.ListN.{length, get_or, drop, length-append}
use lib.Seq.{take-append_seam, drop-append_seam, get_or-append_seam}
use lib.Dec.{ltb, eqb}
use borrow.Author.Tests.{eq-eqb, ne_eqb, lt-ltb, le-ltb}
use Rattle.layout.specs.Kind.{most, kind_up}
use Rattle.model.specs.Strings.{pick, shared}
use Rattle.model.specs.Edition.{Edition, Value, text_of}
use Rattle.model.specs.Item.{extent}
use Rattle.model.specs.Tree.{Art, Kids, extent_of, count, has, join, place_in, carried, over, new_key, find_tree, find_kids, put_tree, put_kids}
use Rattle.model.proofs.StandsGood.{length_pairs}
use Rattle.model.specs.Frame.{Lay, LayKids, art, art_kids, pairs, Begins, Tree, Root, tree}
use Rattle.model.specs.Frame.Lay.{leaf, prefix, node}
use Rattle.model.specs.Frame.LayKids.{nil, kid}
use Rattle.model.specs.Touch.{has_byte, touch_put, touch_put_kids, find_lay, find_lay_kids, find_at, extent_at}
use Rattle.model.proofs.StringLaws.{shared_whole, same_refl}
use Rattle.model.proofs.ChainLaws.{Hung, hung_atop, atop_full, below_hung, put_atop, find_atop}
use Rattle.inner.proofs.InnerLaws.{inner_asc}
use Rattle.between.specs.Hole.{app, join_lay, Step, under, among, plug1, plug, step_path, path_of, holder_of, step_slot, app_kids, art_step, art_in}
use Rattle.between.specs.Work.{blank, Around}
use Rattle.between.specs.Lead.{Foremost, Leads, NotUnder}
use Rattle.between.proofs.KidsLaws.{has_is, app_left, not_byte, art_app}
use Rattle.between.proofs.HoleLaws.{under_parts, among_parts, hole_out}
use Rattle.between.proofs.TreeLaws.{prefix_parts}

-- ---- what leads

module _ (E : Edition) (k : List ℕ) where
  -- the key takes a step at depth d
  unfoldable pub Takes : ℕ → Step → Type 0
  Takes d (under s o p) = shared p (drop d (E.walked k)) ≡ length p
  Takes d (among s o kind ls b j rs) = (get_or (E.walked k) d 0 ≡ b) × (has_byte b ls ≡ false)

  unfoldable pub TakesAll : List Step → Type 0
  TakesAll [] = Unit {0}
  TakesAll (x ∷ xs) = Takes (length (path_of xs)) x × TakesAll xs

  pub takes_all : (xs : List Step) (r : List ℕ) → E.walked k ≡ path_of xs ++ r → Foremost xs → TakesAll xs
  unfolding TakesAll Takes Foremost path_of step_path
  takes_all [] r e F = tt
  takes_all (under s o p ∷ xs) r e F =
      let e' : E.walked k ≡ path_of xs ++ (p ++ r) = e ∙ append_assoc (path_of xs) p r in
      (rw (e', drop-append_seam (path_of xs) (p ++ r)) (shared_whole p r), takes_all xs (p ++ r) e' F)
  takes_all (among s o kind ls b j rs ∷ xs) r e F =
      let e' : E.walked k ≡ path_of xs ++ (b ∷ r) = e ∙ append_assoc (path_of xs) (b ∷ []) r in
      ((rw e' (get_or-append_seam (path_of xs) b r 0), F.0), takes_all xs (b ∷ r) e' F.1)

module _ {E : Edition} {k : List ℕ} {xs : List Step} where
  pub leads_takes : {r : List ℕ} → Leads E k xs r → TakesAll E k xs
  leads_takes {r} L = takes_all E k xs r L.word L.first

  pub leads_rest : {r : List ℕ} → Leads E k xs r → drop (length (path_of xs)) (E.walked k) ≡ r
  leads_rest {r} L = rw L.word (drop-append_seam (path_of xs) r)

  pub leads_byte : {b : ℕ} {r : List ℕ} → Leads E k xs (b ∷ r) → get_or (E.walked k) (length (path_of xs)) 0 ≡ b
  leads_byte {b} {r} L = rw L.word (get_or-append_seam (path_of xs) b r 0)

  -- and with bytes more
  pub leads_on : (p r : List ℕ) → Leads E k xs (p ++ r) → Begins (E.walked k) (path_of xs ++ p)
  leads_on p r L = rw (L.word ∙ sym (append_assoc (path_of xs) p r)) (take-append_seam (path_of xs ++ p) r)

pub leads_start : (E : Edition) (k : List ℕ) → Leads E k [] (E.walked k)
unfolding path_of Foremost
leads_start E k = record { word = refl; first = tt }

pub leads_under : {E : Edition} {k : List ℕ} (s o : ℕ) (p : List ℕ) (xs : List Step) (r : List ℕ) → Leads E k xs (p ++ r) → Leads E k (under s o p ∷ xs) r
unfolding path_of step_path Foremost
leads_under s o p xs r L = record { word = L.word ∙ sym (append_assoc (path_of xs) p r); first = L.first }

pub leads_among : {E : Edition} {k : List ℕ} (s o kind : ℕ) (ls : LayKids) (b j : ℕ) (rs : LayKids) (xs : List Step) (r : List ℕ) → has_byte b ls ≡ false → Leads E k xs (b ∷ r) → Leads E k (among s o kind ls b j rs ∷ xs) r
unfolding path_of step_path Foremost
leads_among s o kind ls b j rs xs r h L = record { word = L.word ∙ sym (append_assoc (path_of xs) (b ∷ []) r); first = (h, L.first) }

-- in a tree that stands the children ascend
pub foremost_of : (E : Edition) (f : List ℕ) (xs : List Step) (s : ℕ) → Around E f xs s → Foremost xs
unfolding Foremost
foremost_of E f [] s A = tt
foremost_of E f (under s' o p ∷ xs) s A = foremost_of E f xs s' (under_parts E f s' o p xs s A).3
foremost_of E f (among s' o kind ls b j rs ∷ xs) s A =
    let P = among_parts E f s' o kind ls b j rs xs s A in
    (app_left b j (blank s) 0 ls rs (inner_asc (pairs (app ls (kid b j (blank s) rs))) P.1.inner), foremost_of E f xs s' P.4)

pub leads_of : {E : Edition} {k : List ℕ} {xs : List Step} (f : List ℕ) (s : ℕ) (r : List ℕ) → Around E f xs s → E.walked k ≡ path_of xs ++ r → Leads E k xs r
leads_of {E} {k} {xs} f s r A e = record { word = e; first = foremost_of E f xs s A }

-- ---- among the children of a node

pub has_app : (b j : ℕ) (a : Art) (ls rs : Kids) → has b (app_kids ls (Kids.kid b j a rs)) ≡ true
unfolding app_kids
has_app b j a Kids.nil rs = rw (eq-eqb b b refl) refl
has_app b j a (Kids.kid c i y ls) rs = go (has_app b j a ls rs) (eqb b c)
  where
    go : has b (app_kids ls (Kids.kid b j a rs)) ≡ true → (x : Bool) → pick x true (has b (app_kids ls (Kids.kid b j a rs))) ≡ true
    go ih true = refl
    go ih false = ih

has_lay : (b j : ℕ) (t : Lay) (ls rs : LayKids) → has_byte b (app ls (kid b j t rs)) ≡ true
unfolding app
has_lay b j t nil rs = rw (eq-eqb b b refl) refl
has_lay b j t (kid c i y ls) rs = go (has_lay b j t ls rs) (eqb b c)
  where
    go : has_byte b (app ls (kid b j t rs)) ≡ true → (x : Bool) → pick x true (has_byte b (app ls (kid b j t rs))) ≡ true
    go ih true = refl
    go ih false = ih

-- the key's byte at depth d is b, and no child of ls has it
module _ (E : Edition) (k : List ℕ) (d b j : ℕ) (e : get_or (E.walked k) d 0 ≡ b) where
  pub other_byte : (c : ℕ) (y : Bool) → pick (eqb b c) true y ≡ false → eqb c (get_or (E.walked k) d 0) ≡ false
  other_byte c y h = ne_eqb c (get_or (E.walked k) d 0) (λ q. (not_byte b c y h).0 (q ∙ e))

  put_app : (v : Value) (a : Art) (ls rs : Kids) → has b ls ≡ false → put_kids E (app_kids ls (Kids.kid b j a rs)) d k v ≡ over (λ x. app_kids ls (Kids.kid b j x rs)) (put_tree E a (d + 1) k v)
  unfolding app_kids
  put_app v a Kids.nil rs h = rw (eq-eqb b (get_or (E.walked k) d 0) (sym e)) refl
  put_app v a (Kids.kid c i y ls) rs h = rw (other_byte c (has b ls) h) (ap (over (λ xs. Kids.kid c i y xs)) (put_app v a ls rs (not_byte b c (has b ls) h).1))

  pub find_app : (a : Art) (ls rs : Kids) → has b ls ≡ false → find_kids E (app_kids ls (Kids.kid b j a rs)) d k ≡ find_tree E a (d + 1) k
  unfolding app_kids
  find_app a Kids.nil rs h = rw (eq-eqb b (get_or (E.walked k) d 0) (sym e)) refl
  find_app a (Kids.kid c i y ls) rs h = rw (other_byte c (has b ls) h) (find_app a ls rs (not_byte b c (has b ls) h).1)

  pub look_app : (t : Lay) (ls rs : LayKids) → has_byte b ls ≡ false → find_lay_kids E (app ls (kid b j t rs)) d k ≡ find_lay E t (d + 1) k
  unfolding app
  look_app t nil rs h = rw (eq-eqb b (get_or (E.walked k) d 0) (sym e)) refl
  look_app t (kid c i y ls) rs h = rw (other_byte c (has_byte b ls) h) (look_app t ls rs (not_byte b c (has_byte b ls) h).1)

  touch_app : (v : Value) (t : Lay) (ls rs : LayKids) (s : ℕ) → has_byte b ls ≡ false → touch_put_kids E (app ls (kid b j t rs)) s d k v ≡ touch_put E t s (d + 1) k v
  unfolding app
  touch_app v t nil rs s h = rw (eq-eqb b (get_or (E.walked k) d 0) (sym e)) refl
  touch_app v t (kid c i y ls) rs s h = rw (other_byte c (has_byte b ls) h) (touch_app v t ls rs s (not_byte b c (has_byte b ls) h).1)

-- ---- through one step

-- what hangs in the hole may hang there
unfoldable pub Hangs1 : Step → Art → Type 0
Hangs1 (under s o p) a = Hung p a
Hangs1 (among s o kind ls b j rs) a = Unit {0}

unfoldable pub HangsIn : List Step → Art → Type 0
HangsIn [] a = Unit {0}
HangsIn (x ∷ xs) a = Hangs1 x a × HangsIn xs (art_step x a)

module _ (E : Edition) (k : List ℕ) where
  step_put : (v : Value) (x : Step) (a : Art) (d : ℕ) → Hangs1 x a → Takes E k d x → put_tree E (art_step x a) d k v ≡ over (art_step x) (put_tree E a (d + length (step_path x)) k v)
  unfolding art_step Takes step_path Hangs1
  step_put v (under s o p) a d g h = put_atop E p a d k v g h
  step_put v (among s o kind ls b j rs) a d g h =
      let q : has (get_or (E.walked k) d 0) (app_kids (art_kids ls) (Kids.kid b j a (art_kids rs))) ≡ true = rw h.0 (has_app b j a (art_kids ls) (art_kids rs)) in
      rw q (ap (over (Art.node kind)) (put_app E k d b j h.0 v a (art_kids ls) (art_kids rs) (has_is b ls ∙ h.1)))

  step_find : (x : Step) (a : Art) (d : ℕ) → Takes E k d x → find_tree E (art_step x a) d k ≡ find_tree E a (d + length (step_path x)) k
  unfolding art_step Takes step_path
  step_find (under s o p) a d h = find_atop E p a d k h
  step_find (among s o kind ls b j rs) a d h = find_app E k d b j h.0 a (art_kids ls) (art_kids rs) (has_is b ls ∙ h.1)

  step_look : (x : Step) (t : Lay) (d : ℕ) → Takes E k d x → find_lay E (plug1 x t) d k ≡ find_lay E t (d + length (step_path x)) k
  unfolding plug1 Takes step_path
  step_look (under s o p) t d h = rw (eq-eqb (shared p (drop d (E.walked k))) (length p) h) refl
  step_look (among s o kind ls b j rs) t d h = look_app E k d b j h.0 t ls rs h.1

  step_touch : (v : Value) (x : Step) (t : Lay) (n d : ℕ) → Takes E k d x → touch_put E (plug1 x t) n d k v ≡ touch_put E t (step_slot x) (d + length (step_path x)) k v
  unfolding plug1 Takes step_path
  step_touch v (under s o p) t n d h = rw (eq-eqb (shared p (drop d (E.walked k))) (length p) h) refl
  step_touch v (among s o kind ls b j rs) t n d h =
      let q : has_byte (get_or (E.walked k) d 0) (app ls (kid b j t rs)) ≡ true = rw h.0 (has_lay b j t ls rs) in
      rw q (touch_app E k d b j h.0 v t ls rs s h.1)

-- a tree that stands hangs as it may
pub hangs_in : (E : Edition) (f : List ℕ) (xs : List Step) (t : Lay) → Tree E f [] (plug xs t) → HangsIn xs (art t)
unfolding HangsIn Hangs1 plug plug1 art_step
hangs_in E f [] t T = tt
hangs_in E f (under s o p ∷ xs) t T =
    let R = hole_out E f xs (prefix s o p t) T in
    (below_hung p t (prefix_parts E f (path_of xs) s o p t R.2).2, hangs_in E f xs (prefix s o p t) T)
hangs_in E f (among s o kind ls b j rs ∷ xs) t T =
    (tt, rw (art_app ls (kid b j t rs)) at (hangs_in E f xs (node s o kind (app ls (kid b j t rs))) T))

-- what is put in its place may hang there too: only the step just above looks at it
step_hangs : (x y : Step) (a a' : Art) → Hangs1 y (art_step x a) → Hangs1 y (art_step x a')
unfolding Hangs1 art_step
step_hangs (under s o p) (under s' o' q) a a' h = hung_atop q p a' (atop_full q p a h)
step_hangs (among s o kind ls b j rs) (under s' o' q) a a' h = tt
step_hangs x (among s o kind ls b j rs) a a' h = tt

hangs_above : (x : Step) (xs : List Step) (a a' : Art) → HangsIn xs (art_step x a) → HangsIn xs (art_step x a')
unfolding HangsIn
hangs_above x [] a a' h = tt
hangs_above x (y ∷ xs) a a' h = (step_hangs x y a a' h.0, hangs_above y xs (art_step x a) (art_step x a') h.1)

pub hangs_over : (xs : List Step) (a a' : Art) → ((p : List ℕ) → Hung p a → Hung p a') → HangsIn xs a → HangsIn xs a'
unfolding HangsIn Hangs1
hangs_over [] a a' n h = tt
hangs_over (under s o p ∷ xs) a a' n h = (n p h.0, hangs_above (under s o p) xs a a' h.1)
hangs_over (among s o kind ls b j rs ∷ xs) a a' n h = (tt, hangs_above (among s o kind ls b j rs) xs a a' h.1)

pub hangs_free : (xs : List Step) (a a' : Art) → NotUnder xs → HangsIn xs a → HangsIn xs a'
unfolding HangsIn Hangs1
hangs_free [] a a' n h = tt
hangs_free (under s o p ∷ xs) a a' n h = absurd n
hangs_free (among s o kind ls b j rs ∷ xs) a a' n h = (tt, hangs_above (among s o kind ls b j rs) xs a a' h.1)

-- ---- through all

pub path_length : (x : Step) (xs : List Step) → length (path_of (x ∷ xs)) ≡ length (path_of xs) + length (step_path x)
unfolding path_of
path_length x xs = length-append (path_of xs) (step_path x)

module _ (E : Edition) (k : List ℕ) where
  all_put : (v : Value) (xs : List Step) (a : Art) → HangsIn xs a → TakesAll E k xs → put_tree E (art_in xs a) 0 k v ≡ over (art_in xs) (put_tree E a (length (path_of xs)) k v)
  unfolding art_in path_of TakesAll HangsIn
  all_put v [] a g h = refl
  all_put v (x ∷ xs) a g h =
      all_put v xs (art_step x a) g.1 h.1 ∙ ap (over (art_in xs)) (step_put E k v x a (length (path_of xs)) g.0 h.0)
      ∙ ap (λ n. over (λ y. art_in xs (art_step x y)) (put_tree E a n k v)) (sym (path_length x xs))

  all_find : (xs : List Step) (a : Art) → TakesAll E k xs → find_tree E (art_in xs a) 0 k ≡ find_tree E a (length (path_of xs)) k
  unfolding art_in path_of TakesAll
  all_find [] a h = refl
  all_find (x ∷ xs) a h = all_find xs (art_step x a) h.1 ∙ step_find E k x a (length (path_of xs)) h.0 ∙ ap (λ n. find_tree E a n k) (sym (path_length x xs))

  all_look : (xs : List Step) (t : Lay) → TakesAll E k xs → find_lay E (plug xs t) 0 k ≡ find_lay E t (length (path_of xs)) k
  unfolding plug path_of TakesAll
  all_look [] t h = refl
  all_look (x ∷ xs) t h = all_look xs (plug1 x t) h.1 ∙ step_look E k x t (length (path_of xs)) h.0 ∙ ap (λ n. find_lay E t n k) (sym (path_length x xs))

  all_touch : (v : Value) (xs : List Step) (t : Lay) → TakesAll E k xs → touch_put E (plug xs t) 0 0 k v ≡ touch_put E t (holder_of xs) (length (path_of xs)) k v
  unfolding plug path_of TakesAll
  all_touch v [] t h = refl
  all_touch v (x ∷ xs) t h =
      all_touch v xs (plug1 x t) h.1 ∙ step_touch E k v x t (holder_of xs) (length (path_of xs)) h.0 ∙ ap (λ n. touch_put E t (step_slot x) n k v) (sym (path_length x xs))

module _ {E : Edition} {k : List ℕ} {xs : List Step} {r : List ℕ} (L : Leads E k xs r) where
  pub plug_put : (v : Value) (a : Art) → HangsIn xs a → put_tree E (art_in xs a) 0 k v ≡ over (art_in xs) (put_tree E a (length (path_of xs)) k v)
  plug_put v a g = all_put E k v xs a g (leads_takes L)

  pub plug_find : (a : Art) → find_tree E (art_in xs a) 0 k ≡ find_tree E a (length (path_of xs)) k
  plug_find a = all_find E k xs a (leads_takes L)

  pub plug_look : (t : Lay) → find_lay E (plug xs t) 0 k ≡ find_lay E t (length (path_of xs)) k
  plug_look t = all_look E k xs t (leads_takes L)

  pub plug_touch : (v : Value) (t : Lay) → touch_put E (plug xs t) 0 0 k v ≡ touch_put E t (holder_of xs) (length (path_of xs)) k v
  plug_touch v t = all_touch E k v xs t (leads_takes L)

-- ---- where a new value stands

pub leaf_look : (E : Edition) (s o e : ℕ) (k : List ℕ) (v : Value) (d : ℕ) → find_lay E (leaf s o e k v) d k ≡ some (record { at = e + length k; long = length (text_of v); stamp = v.stamp })
leaf_look E s o e k v d = rw (same_refl k) refl

-- at a child that joined, and in a Node4 of two
pub join_look : (E : Edition) (k : List ℕ) (d b i : ℕ) (t : Lay) (ks : LayKids) → get_or (E.walked k) d 0 ≡ b → has_byte b ks ≡ false → find_lay_kids E (join_lay b i t ks) d k ≡ find_lay E t (d + 1) k
unfolding join_lay
join_look E k d b i t nil e h = rw (eq-eqb b (get_or (E.walked k) d 0) (sym e)) refl
join_look E k d b i t (kid c j l ks) e h =
    let n = not_byte b c (has_byte b ks) h in
    let x : eqb b (get_or (E.walked k) d 0) ≡ true = eq-eqb b (get_or (E.walked k) d 0) (sym e) in
    let y : eqb c (get_or (E.walked k) d 0) ≡ false = ne_eqb c (get_or (E.walked k) d 0) (λ q. n.0 (q ∙ e)) in
    go x y (join_look E k d b i t ks e n.1) (ltb b c)
  where
    go : eqb b (get_or (E.walked k) d 0) ≡ true → eqb c (get_or (E.walked k) d 0) ≡ false → find_lay_kids E (join_lay b i t ks) d k ≡ find_lay E t (d + 1) k → (z : Bool)
        → find_lay_kids E (pick z (kid b i t (kid c j l ks)) (kid c j l (join_lay b i t ks))) d k ≡ find_lay E t (d + 1) k
    go x y ih true = rw x refl
    go x y ih false = rw y ih

pub found_extent : (e : ℕ) (k : List ℕ) (v : Value) → extent_at (length k) (some (record { at = e + length k; long = length (text_of v); stamp = v.stamp })) ≡ extent e (extent_of k v) ∷ []
found_extent e k v = let q : e + length k - length k ≡ e = omega arith in rw q refl

-- where the extent of a key stands whose way ends at its Leaf
pub plug_extent : {E : Edition} {k : List ℕ} {xs : List Step} {r : List ℕ} → Leads E k xs r → (root : Root) (s o e : ℕ) (v : Value) → root ≡ tree (plug xs (leaf s o e k v)) → extent_at (length k) (find_at E root k) ≡ extent e (extent_of k v) ∷ []
plug_extent {E} {k} {xs} L root s o e v q =
    ap (λ (z : Root). extent_at (length k) (find_at E z k)) q ∙ ap (extent_at (length k)) (plug_look L (leaf s o e k v) ∙ leaf_look E s o e k v (length (path_of xs))) ∙ found_extent e k v

-- ---- put at a node without that byte

module _ (E : Edition) (k : List ℕ) (v : Value) (d b kind : ℕ) (ks : LayKids) (e : get_or (E.walked k) d 0 ≡ b) (absent : has_byte b ks ≡ false) where
  missing : has (get_or (E.walked k) d 0) (art_kids ks) ≡ false
  missing = rw e (has_is b ks ∙ absent)

  pub node_put : length (pairs ks) < most kind → put_tree E (Art.node kind (art_kids ks)) d k v ≡ new_key k v (Art.node kind (join b (place_in kind (art_kids ks)) (Art.leaf k v) (art_kids ks))) [] []
  node_put few = rw (missing, lt-ltb (count (art_kids ks)) (most kind) (omega (arith, length_pairs ks)), e) refl

  pub node_grow : most kind ≤ length (pairs ks) → (let up = kind_up kind in let grown = carried up (art_kids ks) in
      put_tree E (Art.node kind (art_kids ks)) d k v ≡ new_key k v (Art.node up (join b (place_in up grown) (Art.leaf k v) grown)) (up ∷ []) (kind ∷ []))
  node_grow full = rw (missing, le-ltb (count (art_kids ks)) (most kind) (omega (arith, length_pairs ks)), e) refl
