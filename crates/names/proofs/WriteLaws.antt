-- An entry written into a buffer: its length, then its bytes, and no other byte. Assumes nothing.
use Prim.Native.Nat.{ℕ, zero, suc, ◌+◌, ◌/◌, ◌%◌, ◌<◌, ◌≤◌}
use native.Mathlib.Omega.{arith}
use mathlib.Core.Path.{◌≡◌, sym, ap, ◌∙◌}
use mathlib.Core.List.{List, ◌++◌}
use lib.ListN.{length, take, drop, get_or, set, length-set, length-take, length-drop, take-append-drop}
use lib.Seq.{ext_get_or, get_or-take, get_or-drop, get_or-set_same, get_or-set_other, drop-drop}
use Rattle.layout.specs.Number.{byte_at, put}
use Rattle.layout.proofs.NumberLaws.{length_put}
use Rattle.model.specs.Image.{digits}
use Rattle.moves.specs.Pasted.{Pasted}

-- a list that has x at a place, and else the bytes of b
three_parts : (b c x : List ℕ) (at : ℕ) → length c ≡ length b → at + length x ≤ length b → ((a : ℕ) → a < at → byte_at c a ≡ byte_at b a) → ((i : ℕ) → i < length x → byte_at c (at + i) ≡ get_or x i 0)
    → ((a : ℕ) → at + length x ≤ a → byte_at c a ≡ byte_at b a) → c ≡ take at b ++ (x ++ drop (at + length x) b)
three_parts b c x at e h low mid high =
    let n = length x in
    let A : take at c ≡ take at b
    = ext_get_or 0 (take at c) (take at b) (simp length-take (omega arith)) (λ i l. let m : i < at = omega (arith, length-take at c) in get_or-take at c i 0 m ∙ low i m ∙ sym (get_or-take at b i 0 m)) in
    let k : length (take n (drop at c)) ≡ n = simp (length-take, length-drop) (omega arith) in
    let M : take n (drop at c) ≡ x
    = ext_get_or 0 (take n (drop at c)) x k (λ i l. get_or-take n (drop at c) i 0 (omega arith) ∙ get_or-drop at c i 0 ∙ mid i (omega arith)) in
    let Z : drop (at + n) c ≡ drop (at + n) b
    = ext_get_or 0 (drop (at + n) c) (drop (at + n) b) (simp length-drop (omega arith)) (λ i l. get_or-drop (at + n) c i 0 ∙ high (at + n + i) (omega arith) ∙ sym (get_or-drop (at + n) b i 0)) in
    sym (take-append-drop at c) ∙ ap (λ (y : List ℕ). take at c ++ y) (sym (take-append-drop n (drop at c)) ∙ ap (λ (y : List ℕ). take n (drop at c) ++ y) (drop-drop n at c))
    ∙ ap (λ (y : List ℕ). y ++ (take n (drop at c) ++ drop (at + n) c)) A ∙ ap (λ (y : List ℕ). take at b ++ (y ++ drop (at + n) c)) M ∙ ap (λ (y : List ℕ). take at b ++ (x ++ y)) Z

two_put : (b : List ℕ) (at n : ℕ) → at + 2 ≤ length b → (byte_at (put 2 b at n) at ≡ n % 256) × (byte_at (put 2 b at n) (at + 1) ≡ n / 256 % 256)
unfolding put
two_put b at n h =
    let s = set b at (n % 256) in
    let l : length s ≡ length b = length-set b at (n % 256) in
    (get_or-set_other s (at + 1) at (n / 256 % 256) 0 (λ q. omega arith) ∙ get_or-set_same b at (n % 256) 0 (omega arith), get_or-set_same s (at + 1) (n / 256 % 256) 0 (omega arith))

put_off : (b : List ℕ) (at n a : ℕ) → (a ≡ at → ⊥) → (a ≡ at + 1 → ⊥) → byte_at (put 2 b at n) a ≡ byte_at b a
unfolding put
put_off b at n a x y = get_or-set_other (set b at (n % 256)) (at + 1) a (n / 256 % 256) 0 y ∙ get_or-set_other b at a (n % 256) 0 x

pub entry_written : (b p c e : List ℕ) (at : ℕ) → at + (2 + length e) ≤ length b → p ≡ put 2 b at (length e) → Pasted p c (at + 2) (length e) e
    → c ≡ take at b ++ ((digits 2 (length e) ++ e) ++ drop (at + (2 + length e)) b)
entry_written b p c e at h q P =
    let n = length e in
    let x = digits 2 n ++ e in
    let lp : length p ≡ length b = ap length q ∙ length_put 2 b at n in
    let lc : length c ≡ length b = P.only.size ∙ lp in
    let lx : length x ≡ 2 + n = omega arith in
    three_parts b c x at lc (omega arith)
    (λ a l. P.only.below a (omega arith) ∙ ap (λ (y : List ℕ). byte_at y a) q ∙ put_off b at n a (λ z. omega arith) (λ z. omega arith))
    (λ i l. middle i (omega arith))
    (λ a l. P.only.above a (omega arith) ∙ ap (λ (y : List ℕ). byte_at y a) q ∙ put_off b at n a (λ z. omega arith) (λ z. omega arith))
    ∙ ap (λ (m : ℕ). take at b ++ (x ++ drop (at + m) b)) lx
  where
    middle : (i : ℕ) → i < 2 + length e → byte_at c (at + i) ≡ get_or (digits 2 (length e) ++ e) i 0
    middle zero l =
        let z : at + 0 ≡ at = omega arith in
        rw z (P.only.below at (omega arith) ∙ ap (λ (y : List ℕ). byte_at y at) q ∙ (two_put b at (length e) (omega arith)).0)
    middle (suc zero) l = P.only.below (at + 1) (omega arith) ∙ ap (λ (y : List ℕ). byte_at y (at + 1)) q ∙ (two_put b at (length e) (omega arith)).1
    middle (suc (suc i)) l = P.text (at + suc (suc i)) i (omega arith) (omega arith)
