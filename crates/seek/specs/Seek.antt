-- The seek in a frame: what stands where it goes on, and what it falls back on.
use Rattle.std.specs.Prelude.{ℕ, ◌+◌, ◌≤◌, ◌≡◌, List, ◌⊎◌, length, eqb, Option as Optional, Some, MatchOption}
use Rattle.std.proofs.Math.Option.{Option, none}
use Rattle.model.specs.Strings.{pick}
use Rattle.model.specs.Edition.{Edition, Legal, Value}
use Rattle.model.specs.Body.{InnerAt, LeafAt}
use Rattle.model.specs.Frame.{Lay, slot_of, Tree}
use Rattle.node.specs.Kids.{next_kid}
use Rattle.listing.specs.Seek.{Leafy, leaves, weigh, first_from, first_leaf, or_else, Guides}
use Rattle.seek.specs.declared.Spare.{Spare}
use Rattle.seek.specs.Sub.{Sub, Placed}

-- a tree that lies above the bound, and its first Leaf
pub record FallsTo (E : Edition) (f : List ℕ) (p : Spare) (o : Option Leafy) : Type 0 where
  pub sub : Sub E f p.slot p.depth
  pub first : o ≡ first_leaf (leaves sub.lay)

-- the nearest one, if there is one
pub record Fallback (E : Edition) (f : List ℕ) (p : Optional Spare) (o : Option Leafy) : Type 0 where
  pub to : MatchOption p (o ≡ none) (λ s. FallsTo E f s o)

-- r is the place of the Leaf o, or there is none
pub record Is (o : Option Leafy) (r : Optional ℕ) : Type 0 where
  pub at : MatchOption r (o ≡ none) (Placed o)

abbrev pub FallenBack : Edition → List ℕ → Optional Spare → Optional ℕ → Type 0
FallenBack E f p r = (o : Option Leafy) → Fallback E f p o → Is o r

abbrev pub SoughtAt : Edition → List ℕ → List ℕ → ℕ → ℕ → Optional ℕ → Type 0
SoughtAt E f g t s r = (path : List ℕ) (l : Lay) → Tree E f path l → slot_of l ≡ s → Is (first_from g t (leaves l)) r

-- the tree at slot s, and a string that guides to the bound of g and t
pub record Guided (E : Edition) (f g w : List ℕ) (t s : ℕ) : Type 0 where
  pub sub : Sub E f s 0
  pub guides : Guides E g t w

-- what may stand behind the text of a bound that is sought: 0, 1 or 256
abbrev pub Tail : ℕ → Type 0
Tail t = (t ≤ 1) ⊎ (t ≡ 256)

-- what a byte behind the text is weighed against in a key
abbrev pub behind_text : ℕ → ℕ
behind_text t = pick (eqb t 1) 0 t

-- a seek from slot s, guided by w, stands at slot s', to which d bytes lead that do not decide yet
pub record Seeking (E : Edition) (f g w : List ℕ) (t s s' d : ℕ) (p : Optional Spare) : Type 0 where
  pub sub : Sub E f s' d
  pub guides : Guides E g t w
  pub undecided : weigh w t sub.path ≡ 1
  pub spare : Option Leafy
  pub falls : Fallback E f p spare
  pub whole : (path : List ℕ) (l : Lay) → Tree E f path l → slot_of l ≡ s → first_from g t (leaves l) ≡ or_else (first_from g t (leaves sub.lay)) spare

-- of the children of a node at o, to which d bytes lead: the first from byte b on, if there is one
pub record Nearer (f : List ℕ) (o kind b d : ℕ) (p r : Optional Spare) : Type 0 where
  pub lacking : (ks : List (ℕ × ℕ)) → InnerAt f o kind ks → (next_kid b ks).0 ≡ 256 → r ≡ p
  pub having : (ks : List (ℕ × ℕ)) → InnerAt f o kind ks → ((next_kid b ks).0 ≡ 256 → ⊥) → r ≡ Some (record { slot = (next_kid b ks).1; depth = d + 1 })

pub record Falls (E : Edition) (f : List ℕ) (p : Optional Spare) : Type 0 where
  pub leafy : Option Leafy
  pub fallback : Fallback E f p leafy

-- a Leaf's body, with a legal key
pub record LeafSome (E : Edition) (f : List ℕ) (o : ℕ) : Type 0 where
  pub extent : ℕ
  pub key : List ℕ
  pub value : Value
  pub at : LeafAt f o extent key value
  pub room : o + 16 ≤ length f
  pub legal : Legal E key
