-- A key whose walked string parts from a shared beginning after a path and w more bytes, the byte c and the bytes t of it left: what put makes
-- of it. Assumes nothing.
use Prim.Native.Nat.{ℕ, suc, ◌+◌, ◌-◌, ◌<◌, ◌≤◌}
use mathlib.Core.Path.{◌≡◌, refl, sym, ap, ◌∙◌}
use mathlib.Core.List.{List, [], ◌∷◌, ◌++◌, append_assoc}
use native.Mathlib.Omega.{arith}
use lib.ListN.{length, get_or, take, drop, length-append}
use lib.Seq.{take-append_seam, drop-append_seam, get_or-append_seam}
use borrow.Author.Tests.{ne_eqb}
use Rattle.layout.specs.Place.{prefix_most}
use Rattle.layout.specs.Kind.{node4_kind}
use Rattle.model.specs.Strings.{shared, Parted}
use Rattle.model.specs.Edition.{Edition, Value}
use Rattle.model.specs.Tree.{Art, Change, chain, prefixes, as_prefix, fork, new_key, put_tree}
use Rattle.model.proofs.StringLaws.{shared_at}
use Rattle.model.proofs.PutLaws.{drop_past}
use Rattle.model.proofs.ChainLaws.{as_some}

-- ---- the change

-- the change of `cut_prefix`, from the rest of the walked string
abbrev cut_at : List ℕ → Value → List ℕ → Art → List ℕ → Change Art
cut_at k v p a r =
    let q = shared p r in
    let after = drop (suc q) p in
    new_key k v
    (as_prefix (take q p) (fork (get_or r q 0) (Art.leaf k v) (get_or p q 0) (as_prefix after a)))
    (node4_kind ∷ prefixes (chain q + chain (length after) - chain (length p)))
    (prefixes (chain (length p) - (chain q + chain (length after))))

-- the same, from the parts
abbrev pub made_of : List ℕ → Value → ℕ → ℕ → Art → List ℕ → List ℕ → Change Art
made_of k v b c a w t =
    new_key k v
    (as_prefix w (fork b (Art.leaf k v) c (as_prefix t a)))
    (node4_kind ∷ prefixes (chain (length w) + chain (length t) - chain (length w + suc (length t))))
    (prefixes (chain (length w + suc (length t)) - (chain (length w) + chain (length t))))

cut_at_lem : (k : List ℕ) (v : Value) (a : Art) (w : List ℕ) (b : ℕ) (s : List ℕ) (c : ℕ) (t : List ℕ) → (b ≡ c → ⊥) → cut_at k v (w ++ c ∷ t) a (w ++ b ∷ s) ≡ made_of k v b c a w t
cut_at_lem k v a w b s c t n = rw (shared_at w c t b s (λ q. n (sym q)), drop_past w c t, take-append_seam w (c ∷ t), get_or-append_seam w b s 0, get_or-append_seam w c t 0, length-append w (c ∷ t)) refl

-- with m Prefixes taken and n freed
made_as : (k : List ℕ) (v : Value) (b c : ℕ) (a : Art) (w t : List ℕ) (m n : ℕ) → chain (length w) + chain (length t) - chain (length w + suc (length t)) ≡ m
    → chain (length w + suc (length t)) - (chain (length w) + chain (length t)) ≡ n
    → made_of k v b c a w t ≡ new_key k v (as_prefix w (fork b (Art.leaf k v) c (as_prefix t a))) (node4_kind ∷ prefixes m) (prefixes n)
made_as k v b c a w t m n em en = rw (em, en)

-- no part before: j Prefixes fewer
pub made_first : (k : List ℕ) (v : Value) (b c : ℕ) (a : Art) (t : List ℕ) (j : ℕ) → chain (length t) + j ≡ chain (suc (length t)) → made_of k v b c a [] t ≡ new_key k v (fork b (Art.leaf k v) c (as_prefix t a)) (node4_kind ∷ []) (prefixes j)
made_first k v b c a t j e = made_as k v b c a [] t 0 j (omega arith) (omega arith)

-- a part before, of one Prefix: i Prefixes more
pub made_within : (k : List ℕ) (v : Value) (b c : ℕ) (a : Art) (w t : List ℕ) (i : ℕ) → 1 ≤ length w → length w < prefix_most → chain (length t) + 1 ≡ chain (length w + suc (length t)) + i
    → made_of k v b c a w t ≡ new_key k v (Art.prefix w (fork b (Art.leaf k v) c (as_prefix t a))) (node4_kind ∷ prefixes i) []
made_within k v b c a w t i some less e =
    made_as k v b c a w t i 0 (omega arith) (omega arith) ∙ ap (λ x. new_key k v x (node4_kind ∷ prefixes i) []) (as_some w (fork b (Art.leaf k v) c (as_prefix t a)) some)

-- ---- a key and a shared beginning

module _ (E : Edition) (k path : List ℕ) {r p : List ℕ} (e : E.walked k ≡ path ++ r) (Q : Parted r p) where
  rest_is : drop (length path) (E.walked k) ≡ r
  rest_is = ap (drop (length path)) e ∙ drop-append_seam path r

  pub shares_is : shared p (drop (length path) (E.walked k)) ≡ length Q.w
  shares_is = ap (shared p) (rest_is ∙ Q.left) ∙ ap (λ x. shared x (Q.w ++ Q.b ∷ Q.s)) Q.right ∙ shared_at Q.w Q.c Q.t Q.b Q.s (λ q. Q.apart (sym q))

  pub length_is : length p ≡ length Q.w + 1 + length Q.t
  length_is = ap length Q.right ∙ length-append Q.w (Q.c ∷ Q.t) ∙ omega arith

  pub here_left : drop (length path) (E.walked k) ≡ Q.w ++ Q.b ∷ Q.s
  here_left = rest_is ∙ Q.left

  -- the path to what is below
  pub path_is : path ++ p ≡ ((path ++ Q.w) ++ Q.c ∷ []) ++ Q.t
  path_is = ap (λ x. path ++ x) Q.right ∙ sym (append_assoc path Q.w (Q.c ∷ Q.t)) ∙ sym (append_assoc (path ++ Q.w) (Q.c ∷ []) Q.t)

  parts_here : shared p (drop (length path) (E.walked k)) ≡ length p → ⊥
  parts_here q = omega (arith, q, shares_is, length_is)

  pub put_parts : (v : Value) (a : Art) → put_tree E (Art.prefix p a) (length path) k v ≡ made_of k v Q.b Q.c a Q.w Q.t
  put_parts v a =
      rw (ne_eqb (shared p (drop (length path) (E.walked k))) (length p) parts_here)
      (ap (cut_at k v p a) here_left ∙ ap (λ x. cut_at k v x a (Q.w ++ Q.b ∷ Q.s)) Q.right ∙ cut_at_lem k v a Q.w Q.b Q.s Q.c Q.t Q.apart)
