-- What is done to a frame, said of its view (numbers, lists, what is given out and not freed): a body is taken or freed, an extent is
-- given out or dies, a field is set.
use Rattle.std.specs.Prelude.{ℕ, ◌+◌, ◌-◌, ◌<◌, ◌≤◌, ◌≡◌, List, [], ◌∷◌, get_or, set}
use Rattle.layout.specs.Kind.{body_size}
use Rattle.model.specs.Item.{Item, body, extent}
use Rattle.model.specs.Frame.{Numbers, View}

-- the numbers of a frame with another B, U, R, X and root slot
abbrev pub renumbered : Numbers → ℕ → ℕ → ℕ → ℕ → ℕ → Numbers
renumbered n b u r x t = record { edition = n.edition; F = n.F; N = n.N; B = b; U = u; R = r; X = x; root = t }

-- ---- a body is taken

-- the freed bodies of kind k: slots and places
abbrev pub list_of : View → ℕ → List (ℕ × ℕ)
list_of h k = get_or h.lists (k - 1) []

-- the first body x of kind k's list leaves it; r is the rest of the list
abbrev pub popped : View → ℕ → ℕ × ℕ → List (ℕ × ℕ) → View
popped h k x r = record { nums = h.nums; lists = set h.lists (k - 1) r; owned = body x.0 k x.1 ∷ h.owned }

-- slot U + 1 and bytes at B
abbrev pub given : View → ℕ → View
given h k = record {
  nums = renumbered h.nums (h.nums.B + body_size k) (h.nums.U + 1) h.nums.R h.nums.X h.nums.root;
  lists = h.lists;
  owned = body (h.nums.U + 1) k h.nums.B ∷ h.owned;
}

-- "A body comes from its kind's list if that isn't empty; else it takes slot U + 1 and bytes at B."
unfoldable pub taken_from : View → ℕ → List (ℕ × ℕ) → View
taken_from h k [] = given h k
taken_from h k (x ∷ r) = popped h k x r

unfoldable pub slot_from : View → List (ℕ × ℕ) → ℕ
slot_from h [] = h.nums.U + 1
slot_from h (x ∷ r) = x.0

unfoldable pub place_from : View → List (ℕ × ℕ) → ℕ
place_from h [] = h.nums.B
place_from h (x ∷ r) = x.1

abbrev pub taken : View → ℕ → View
taken h k = taken_from h k (list_of h k)

-- there is room for a body of kind k
abbrev pub Roomy : View → ℕ → Type 0
Roomy h k = list_of h k ≡ [] → (h.nums.U < h.nums.N) × (h.nums.B + body_size k ≤ h.nums.F)

-- ---- the other changes

-- the body of slot s, kind k and place o goes on its kind's list; what is owned besides is `rest`
abbrev pub released : View → ℕ → ℕ → ℕ → List Item → View
released h s k o rest = record { nums = h.nums; lists = set h.lists (k - 1) ((s, o) ∷ list_of h k); owned = rest }

-- "An extent always comes from B": one of n bytes
abbrev pub extended : View → ℕ → View
extended h n = record {
  nums = renumbered h.nums (h.nums.B + n) h.nums.U h.nums.R h.nums.X h.nums.root;
  lists = h.lists;
  owned = extent h.nums.B n ∷ h.owned;
}

-- an extent of n bytes dies; what is owned besides is `rest`
abbrev pub retired : View → ℕ → List Item → View
retired h n rest = record {
  nums = renumbered h.nums h.nums.B h.nums.U h.nums.R (h.nums.X + n) h.nums.root;
  lists = h.lists;
  owned = rest;
}

-- R and the root slot are set
abbrev pub recorded : View → ℕ → View
recorded h r = record {
  nums = renumbered h.nums h.nums.B h.nums.U r h.nums.X h.nums.root;
  lists = h.lists;
  owned = h.owned;
}

abbrev pub rooted : View → ℕ → View
rooted h s = record {
  nums = renumbered h.nums h.nums.B h.nums.U h.nums.R h.nums.X s;
  lists = h.lists;
  owned = h.owned;
}

-- the same frame, with what is owned named otherwise
abbrev pub holding : View → List Item → View
holding h is = record { nums = h.nums; lists = h.lists; owned = is }
