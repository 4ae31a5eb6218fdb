-- The run of Prefixes on top of a tree, changed where it stands: it is freed, a Prefix above is filled up from it, or a byte joins in front.
use Rattle.std.specs.Prelude.{ℕ, suc, ◌+◌, ◌-◌, ◌≤◌, ◌≡◌, List, [], ◌∷◌, ◌++◌, length}
use Rattle.layout.specs.Kind.{prefix_kind}
use Rattle.model.specs.Edition.{Edition}
use Rattle.model.specs.Tree.{chain, prefixes}
use Rattle.model.specs.Item.{Item, body, cover, sum}
use Rattle.model.specs.Body.{PrefixAt}
use Rattle.model.specs.Frame.{Lay, slot_of, Below, View}
use Rattle.model.specs.Frame.Lay.{prefix}
use Rattle.room.specs.View.{Roomy, rooted}
use Rattle.room.specs.Step.{Kept}
use Rattle.room.specs.Book.{taken_all}
use Rattle.between.specs.Hole.{Step, plug, path_of, Link}
use Rattle.between.specs.Work.{Suits, root_of, Work}
use Rattle.between.specs.Lead.{NotLeaf}
use Rattle.between.specs.Since.{Since, holder_items}
use Rattle.between.specs.Edit.{Booked}
use Rattle.chain.specs.Row.{row_items, bodies_of, bytes_of, tip_of}

-- ---- the run is freed

-- its bodies before other items, the last one first, as they are freed
abbrev pub down_items : List (ℕ × ℕ) → List Item → List Item
down_items [] is = is
down_items (x ∷ rs) is = down_items rs (body x.0 prefix_kind x.1 ∷ is)

-- of the tree t what stands below its run is left
pub record Freed (E : Edition) (f g : List ℕ) (h : View) (xs : List Step) (s : ℕ) (path : List ℕ) (t : Lay) (ts : List (List ℕ × Lay)) (loose : List Item) : Type 0 where
  pub view : View
  pub work : Work E g view xs s ((path ++ bytes_of t, tip_of t) ∷ ts) loose
  pub booked : (h0 : View) (ks fs : List ℕ) (x d r : ℕ) → Booked h0 h ks fs x d r → Booked h0 view ks (prefixes (length (bodies_of t)) ++ fs) x d r
  pub since : (f0 : List ℕ) (h0 : View) (bs ws gs es : List Item) → Since f0 h0 f h bs ws gs es → Since f0 h0 g view bs ws (down_items (bodies_of t) gs) es

abbrev pub RunFreed : List ℕ → List ℕ → ℕ → Type 0
RunFreed f g slot =
    (E : Edition) (h : View) (xs : List Step) (s : ℕ) (path : List ℕ) (t : Lay) (ts : List (List ℕ × Lay)) (loose : List Item) → Work E f h xs s ((path, t) ∷ ts) loose → slot_of t ≡ slot
    → Freed E f g h xs s path t ts loose

-- some work in which it stands, with at most `left` bodies
pub record Frees (f : List ℕ) (slot left : ℕ) : Type 0 where
  pub edition : Edition
  pub view : View
  pub steps : List Step
  pub top : ℕ
  pub path : List ℕ
  pub tree : Lay
  pub trees : List (List ℕ × Lay)
  pub loose : List Item
  pub work : Work edition f view steps top ((path, tree) ∷ trees) loose
  pub slot_is : slot_of tree ≡ slot
  pub few : length (bodies_of tree) ≤ left

-- ---- a Prefix above is filled up

-- the loose body of slot n at o has the bytes p and names the tree t below
pub record Filling (E : Edition) (f : List ℕ) (h : View) (xs : List Step) (s : ℕ) (path p : List ℕ) (t : Lay) (ts : List (List ℕ × Lay)) (loose : List Item) (n o : ℕ) : Type 0 where
  pub work : Work E f h xs s ((path ++ p, t) ∷ ts) (body n prefix_kind o ∷ loose)
  pub at : PrefixAt f o p (slot_of t)
  pub below : NotLeaf t

-- it is the first of one run with that of t; of the bodies those of `gone` were freed
pub record Filled (E : Edition) (f g : List ℕ) (h : View) (xs : List Step) (s : ℕ) (path p : List ℕ) (t : Lay) (ts : List (List ℕ × Lay)) (loose : List Item) (n o : ℕ) : Type 0 where
  pub view : View
  pub lay : Lay
  pub gone : List (ℕ × ℕ)
  pub work : Work E g view xs s ((path, lay) ∷ ts) loose
  pub slot : slot_of lay ≡ n
  pub hangs : (q : List ℕ) → length q ≡ 112 → Below q lay
  pub bodies : ◌≡◌ {A = List (ℕ × ℕ)} ((n, o) ∷ bodies_of t) (bodies_of lay ++ gone)
  pub bytes : bytes_of lay ≡ p ++ bytes_of t
  pub tip : tip_of lay ≡ tip_of t
  pub booked : (h0 : View) (ks fs : List ℕ) (x d r : ℕ) → Booked h0 h ks fs x d r → Booked h0 view ks (prefixes (length gone) ++ fs) x d r
  pub since : (f0 : List ℕ) (h0 : View) (bs ws gs es : List Item) → Since f0 h0 f h bs ws gs es → ((a : ℕ) → sum (cover a) (row_items ((n, o) ∷ bodies_of t) []) ≤ sum (cover a) ws) → Since f0 h0 g view bs ws (row_items gone gs) es
  -- what else is owned stays as it is
  pub kept : (js : List Item) → ((w : Item → ℕ) → sum w (row_items ((n, o) ∷ bodies_of t) []) + sum w js ≤ sum w h.owned) → Kept f g js

abbrev pub RunFilled : List ℕ → List ℕ → ℕ → ℕ → Type 0
RunFilled f g o slot =
    (E : Edition) (h : View) (xs : List Step) (s : ℕ) (path p : List ℕ) (t : Lay) (ts : List (List ℕ × Lay)) (loose : List Item) (n : ℕ) → Filling E f h xs s path p t ts loose n o → slot_of t ≡ slot
    → Filled E f g h xs s path p t ts loose n o

-- some work in which it is so, with at most `left` bodies below
pub record Fills (f : List ℕ) (o slot left : ℕ) : Type 0 where
  pub edition : Edition
  pub view : View
  pub steps : List Step
  pub top : ℕ
  pub path : List ℕ
  pub text : List ℕ
  pub tree : Lay
  pub trees : List (List ℕ × Lay)
  pub loose : List Item
  pub number : ℕ
  pub filling : Filling edition f view steps top path text tree trees loose number o
  pub slot_is : slot_of tree ≡ slot
  pub few : length (bodies_of tree) ≤ left

-- ---- a byte joins in front

-- how many Prefixes it then has more
abbrev pub lacks : Lay → ℕ
lacks t = chain (suc (length (bytes_of t))) - chain (length (bytes_of t))

-- the byte b leads from the hole to the tree t, whose run may stand in the hole
pub record Pushing (E : Edition) (f : List ℕ) (h : View) (xs : List Step) (s : ℕ) (t : Lay) (ts : List (List ℕ × Lay)) (loose : List Item) (b link : ℕ) : Type 0 where
  pub work : Work E f h xs s ((path_of xs ++ b ∷ [], t) ∷ ts) loose
  pub link_is : Link xs link
  pub below : NotLeaf t
  pub suits : (n o : ℕ) (q : List ℕ) (u : Lay) → Suits xs (prefix n o q u)
  pub room : 1 ≤ lacks t → Roomy h prefix_kind

-- it does, with b in front and the bodies of `new`, which were taken
pub record Pushed (E : Edition) (f g : List ℕ) (h : View) (xs : List Step) (t : Lay) (ts : List (List ℕ × Lay)) (loose : List Item) (b : ℕ) : Type 0 where
  pub lay : Lay
  pub new : List (ℕ × ℕ)
  pub many : length new ≡ lacks t
  pub work : Work E g (rooted (taken_all h (prefixes (lacks t))) (root_of xs (slot_of lay))) [] (slot_of (plug xs lay)) (([], plug xs lay) ∷ ts) loose
  pub bodies : bodies_of lay ≡ bodies_of t ++ new
  pub bytes : bytes_of lay ≡ b ∷ bytes_of t
  pub tip : tip_of lay ≡ tip_of t
  pub since : (f0 : List ℕ) (h0 : View) (bs ws es : List Item) → Since f0 h0 f h bs ws [] es → ((a : ℕ) → sum (cover a) (holder_items xs) + sum (cover a) (row_items (bodies_of t) []) ≤ sum (cover a) ws)
      → Since f0 h0 g (rooted (taken_all h (prefixes (lacks t))) (root_of xs (slot_of lay))) (row_items new bs) ws [] es

abbrev pub RunPushed : List ℕ → List ℕ → ℕ → ℕ → ℕ → Type 0
RunPushed f g slot b link =
    (E : Edition) (h : View) (xs : List Step) (s : ℕ) (t : Lay) (ts : List (List ℕ × Lay)) (loose : List Item) → Pushing E f h xs s t ts loose b link → slot_of t ≡ slot → Pushed E f g h xs t ts loose b

pub record Pushes (f : List ℕ) (slot b link left : ℕ) : Type 0 where
  pub edition : Edition
  pub view : View
  pub steps : List Step
  pub top : ℕ
  pub tree : Lay
  pub trees : List (List ℕ × Lay)
  pub loose : List Item
  pub pushing : Pushing edition f view steps top tree trees loose b link
  pub slot_is : slot_of tree ≡ slot
  pub few : length (bodies_of tree) ≤ left
