-- A chain of Prefixes, seen from one of its bodies: what put, erase and look-up make of the whole chain is what they make of the rest below a
-- full Prefix, with that Prefix put back on top; needs and frees are the same. In the packed image one body more stands before the rest.
-- Assumes nothing.
use Prim.Native.Nat.{ℕ, zero, suc, ◌+◌, ◌-◌, ◌*◌, ◌≤◌}
use native.Mathlib.Omega.{arith}
use mathlib.Core.Path.{◌≡◌, refl, ap, sym, ◌∙◌}
use mathlib.Core.List.{List, [], ◌∷◌, ◌++◌, append_assoc, append-nil}
use mathlib.Core.Bool.{true}
use mathlib.Core.Option.{none}
use lib.ListN.{length, take, drop, get_or, length-append}
use lib.Seq.{take_all, take-append_seam, drop-append_seam}
use lib.Dec.{eqb, ltb}
use borrow.Author.Tests.{eq-eqb, ne_eqb}
use Rattle.layout.specs.Place.{prefix_most}
use Rattle.model.specs.Strings.{shared}
use Rattle.model.specs.Edition.{Edition, Value}
use Rattle.layout.specs.Kind.{prefix_kind, node4_kind, most, shrink_mark, kind_down, body_size}
use Rattle.layout.specs.Entry.{entry_of}
use Rattle.model.specs.Tree.{Art, Kids, Change, Left, over, chain, prefixes, rechained, as_prefix, fork, new_key, has, count, is_inner, find_tree, cut_prefix, put_tree, LeftKids, carried, less_one, after_kids, under_prefix, close_under, erase_tree, erase_kids}
use Rattle.model.specs.Tree.Art.{leaf, prefix, node}
use Rattle.model.specs.Tree.Kids.{nil, kid}
use Rattle.model.specs.Tree.Left.{gone, one, kept}
use Rattle.model.specs.Tree.LeftKids.{fewer, still}
use Rattle.model.specs.Image.{packed, slots, size, entries, bodies, chain_bodies, digits, padded}
use Rattle.model.specs.Frame.{Lay, Below, atop, art}
use Rattle.model.proofs.StringLaws.{bool_cases, eqb_cases, clash, shared_left}

-- what may hang below a Prefix of bytes p
abbrev pub Hung : List ℕ → Art → Type 0
Hung p (leaf k v) = ⊥
Hung p (prefix q a) = length p ≡ prefix_most
Hung p (node kind ks) = Unit {0}

pub hung_atop : (p q : List ℕ) (a : Art) → length p ≡ prefix_most → Hung p (atop q a)
hung_atop p q (leaf k v) e = e
hung_atop p q (prefix t a) e = e
hung_atop p q (node kind ks) e = e

pub atop_full : (p q : List ℕ) (a : Art) → Hung p (atop q a) → length p ≡ prefix_most
atop_full p q (leaf k v) h = h
atop_full p q (prefix t a) h = h
atop_full p q (node kind ks) h = h

pub below_hung : (p : List ℕ) (l : Lay) → Below p l → Hung p (art l)
below_hung p (Lay.leaf s o e k v) B = absurd B
below_hung p (Lay.prefix s o q l) B = hung_atop p q (art l) B
below_hung p (Lay.node s o kind ks) B = tt

-- ---- strings: p matched whole, and q after it

pub shared_on : (p q r : List ℕ) → shared p r ≡ length p → shared (p ++ q) r ≡ length p + shared q (drop (length p) r)
shared_on [] q r h = omega arith
shared_on (x ∷ p) q [] h = absurd (omega arith)
shared_on (x ∷ p) q (y ∷ r) h = eqb_cases x y
    (λ t e. let g : suc (shared p r) ≡ suc (length p) = rw t at h in rw t (let on = shared_on p q r (omega arith) in omega arith))
    (λ t n. let g : 0 ≡ suc (length p) = rw t at h in absurd (omega arith))

-- p not matched whole: what follows it does not count
pub shared_off : (p q r : List ℕ) → (shared p r ≡ length p → ⊥) → shared (p ++ q) r ≡ shared p r
shared_off [] q r n = absurd (n refl)
shared_off (x ∷ p) q [] n = refl
shared_off (x ∷ p) q (y ∷ r) n = eqb_cases x y
    (λ t e. let n' : shared p r ≡ length p → ⊥ = λ z. n (rw t (ap suc z)) in rw t (ap suc (shared_off p q r n')))
    (λ t m. rw t)

take_on : (p q : List ℕ) (n : ℕ) → take (length p + n) (p ++ q) ≡ p ++ take n q
take_on [] q n = let e : 0 + n ≡ n = omega arith in rw e
take_on (x ∷ p) q n = let e : suc (length p) + n ≡ suc (length p + n) = omega arith in rw e (ap (λ (l : List ℕ). x ∷ l) (take_on p q n))

drop_on : (p q : List ℕ) (n : ℕ) → drop (length p + n) (p ++ q) ≡ drop n q
drop_on [] q n = let e : 0 + n ≡ n = omega arith in rw e
drop_on (x ∷ p) q n = let e : suc (length p) + n ≡ suc (length p + n) = omega arith in rw e (drop_on p q n)

get_on : (p q : List ℕ) (n : ℕ) → get_or (p ++ q) (length p + n) 0 ≡ get_or q n 0
get_on [] q n = let e : 0 + n ≡ n = omega arith in rw e
get_on (x ∷ p) q n = let e : suc (length p) + n ≡ suc (length p + n) = omega arith in rw e (get_on p q n)

get_none : (n : ℕ) → ◌≡◌ {A = ℕ} (get_or [] n 0) 0
get_none zero = refl
get_none (suc n) = refl

drop_none : (m : ℕ) → drop {A = ℕ} m [] ≡ []
drop_none zero = refl
drop_none (suc m) = refl

get_past : (r : List ℕ) (m n : ℕ) → get_or r (m + n) 0 ≡ get_or (drop m r) n 0
get_past r zero n = let e : 0 + n ≡ n = omega arith in rw e
get_past [] (suc m) n = get_none (suc m + n) ∙ sym (get_none n)
get_past (x ∷ r) (suc m) n = let e : suc m + n ≡ suc (m + n) = omega arith in rw e (get_past r m n)

drop_drop : (w : List ℕ) (d m : ℕ) → drop m (drop d w) ≡ drop (d + m) w
drop_drop w zero m = let e : 0 + m ≡ m = omega arith in rw e
drop_drop [] (suc d) m = drop_none m ∙ sym (drop_none (suc d + m))
drop_drop (x ∷ w) (suc d) m = let e : suc d + m ≡ suc (d + m) = omega arith in rw e (drop_drop w d m)

-- a test shifted on both sides
test_on : (m a b : ℕ) → eqb (m + a) (m + b) ≡ eqb a b
test_on m a b = eqb_cases a b (λ t e. rw t (eq-eqb (m + a) (m + b) (omega arith))) (λ t n. rw t (ne_eqb (m + a) (m + b) (λ z. n (omega arith))))

-- a shared beginning that is not empty, and one that goes on
pub as_some : (p : List ℕ) (a : Art) → 1 ≤ length p → as_prefix p a ≡ prefix p a
as_some [] a h = absurd (omega arith)
as_some (x ∷ p) a h = refl

pub atop_as : (p q : List ℕ) (a : Art) → is_inner a ≡ true → atop p (as_prefix q a) ≡ prefix (p ++ q) a
atop_as p [] (leaf k v) i = clash (cc)
atop_as p [] (prefix t a) i = clash (cc)
atop_as p [] (node kind ks) i = rw (append-nil p)
atop_as p (x ∷ q) a i = refl

as_on : (p q : List ℕ) (a : Art) → 1 ≤ length p → is_inner a ≡ true → as_prefix (p ++ q) a ≡ atop p (as_prefix q a)
as_on p q a h i = as_some (p ++ q) a (omega (arith, length-append p q)) ∙ sym (atop_as p q a i)

-- ---- look-up

pub find_atop : (E : Edition) (p : List ℕ) (a : Art) (d : ℕ) (k : List ℕ) → shared p (drop d (E.walked k)) ≡ length p → find_tree E (atop p a) d k ≡ find_tree E a (d + length p) k
find_atop E p (leaf k' v') d k h = rw (eq-eqb (shared p (drop d (E.walked k))) (length p) h)
find_atop E p (prefix q a) d k h =
    let s = shared_on p q (drop d (E.walked k)) h in
    let e : d + length (p ++ q) ≡ d + length p + length q = omega (arith, length-append p q) in
    rw (s, drop_drop (E.walked k) d (length p), length-append p q, test_on (length p) (shared q (drop (d + length p) (E.walked k))) (length q))
    (let z : d + (length p + length q) ≡ d + length p + length q = omega arith in rw z)
find_atop E p (node kind ks) d k h = rw (eq-eqb (shared p (drop d (E.walked k))) (length p) h)

-- a key that leaves a Prefix is not below it
pub find_apart : (E : Edition) (p : List ℕ) (a : Art) (d : ℕ) (k : List ℕ) → (shared p (drop d (E.walked k)) ≡ length p → ⊥) → find_tree E (atop p a) d k ≡ none
find_apart E p (leaf k' v') d k n = rw (ne_eqb (shared p (drop d (E.walked k))) (length p) n)
find_apart E p (prefix q a) d k n =
    let e = shared_off p q (drop d (E.walked k)) n in
    let o = shared_left p (drop d (E.walked k)) in
    rw (ne_eqb (shared (p ++ q) (drop d (E.walked k))) (length (p ++ q)) (λ z. n (omega (arith, length-append p q))))
find_apart E p (node kind ks) d k n = rw (ne_eqb (shared p (drop d (E.walked k))) (length p) n)

-- ---- put

-- a Node4 between two parts of a chain, and the same below p
cut_same : (k : List ℕ) (v : Value) (p w : List ℕ) (F F' : Art) (m m' n n' : ℕ) → F ≡ F' → 1 ≤ length p → is_inner F' ≡ true → m ≡ m' → n ≡ n'
    → new_key k v (as_prefix (p ++ w) F) (node4_kind ∷ prefixes m) (prefixes n) ≡ over (atop p) (new_key k v (as_prefix w F') (node4_kind ∷ prefixes m') (prefixes n'))
cut_same k v p w F F' m m' n n' e h i em en = rw (e, em, en, as_on p w F' h i)

fork_inner : (b : ℕ) (x : Art) (c : ℕ) (y : Art) → is_inner (fork b x c y) ≡ true
fork_inner b x c y = refl

-- a chain cut below a full Prefix
cut_atop : (E : Edition) (p q : List ℕ) (a : Art) (d : ℕ) (k : List ℕ) (v : Value) → length p ≡ prefix_most → shared p (drop d (E.walked k)) ≡ length p
    → cut_prefix E d k v (p ++ q) a ≡ over (atop p) (cut_prefix E (d + length p) k v q a)
cut_atop E p q a d k v f h = go (shared (p ++ q) r) (rw (drop_drop (E.walked k) d (length p)) at (shared_on p q r h))
  where
    r : List ℕ
    r = drop d (E.walked k)

    r' : List ℕ
    r' = drop (d + length p) (E.walked k)

    x : ℕ
    x = shared q r'

    get_r : get_or r (length p + x) 0 ≡ get_or r' x 0
    get_r = get_past r (length p) x ∙ ap (λ (l : List ℕ). get_or l x 0) (drop_drop (E.walked k) d (length p))

    go : (y : ℕ) → y ≡ length p + x → new_key k v (as_prefix (take y (p ++ q)) (fork (get_or r y 0) (leaf k v) (get_or (p ++ q) y 0) (as_prefix (drop (suc y) (p ++ q)) a)))
        (node4_kind ∷ prefixes (chain y + chain (length (drop (suc y) (p ++ q))) - chain (length (p ++ q)))) (prefixes (chain (length (p ++ q)) - (chain y + chain (length (drop (suc y) (p ++ q))))))
        ≡ over (atop p) (cut_prefix E (d + length p) k v q a)
    go y e =
        let o : suc y ≡ length p + suc x = omega arith in
        let after = drop (suc x) q in
        rw (o, e, take_on p q x, drop_on p q (suc x), get_on p q x, get_r, length-append p q)
        (cut_same k v p (take x q) (fork (get_or r' x 0) (leaf k v) (get_or q x 0) (as_prefix after a)) (fork (get_or r' x 0) (leaf k v) (get_or q x 0) (as_prefix after a))
        (chain (length p + x) + chain (length after) - chain (length p + length q)) (chain x + chain (length after) - chain (length q))
        (chain (length p + length q) - (chain (length p + x) + chain (length after))) (chain (length q) - (chain x + chain (length after)))
        refl (omega arith) (fork_inner (get_or r' x 0) (leaf k v) (get_or q x 0) (as_prefix after a)) (omega arith) (omega arith))

pub inner_atop : (p : List ℕ) (x : Art) → is_inner x ≡ true → prefix p x ≡ atop p x
inner_atop p (leaf k v) i = clash (cc)
inner_atop p (prefix q a) i = clash (cc)
inner_atop p (node kind ks) i = refl

over_atop : (p : List ℕ) (c : Change Art) → is_inner c.now ≡ true → over (λ x. prefix p x) c ≡ over (atop p) c
over_atop p c i = ap (λ (x : Art). record { now = x; takes = c.takes; frees = c.frees; extent = c.extent; dead = c.dead; fresh = c.fresh }) (inner_atop p c.now i)

put_inner : (E : Edition) (kind : ℕ) (ks : Kids) (d : ℕ) (k : List ℕ) (v : Value) → is_inner (put_tree E (node kind ks) d k v).now ≡ true
put_inner E kind ks d k v = bool_cases (has (get_or (E.walked k) d 0) ks)
    (λ t. rw t refl)
    (λ t. rw t (bool_cases (ltb (count ks) (most kind)) (λ u. rw u refl) (λ u. rw u refl)))

pub put_atop : (E : Edition) (p : List ℕ) (a : Art) (d : ℕ) (k : List ℕ) (v : Value) → Hung p a → shared p (drop d (E.walked k)) ≡ length p
    → put_tree E (atop p a) d k v ≡ over (atop p) (put_tree E a (d + length p) k v)
put_atop E p (leaf k' v') d k v H h = absurd H
put_atop E p (node kind ks) d k v H h =
    rw (eq-eqb (shared p (drop d (E.walked k))) (length p) h) (over_atop p (put_tree E (node kind ks) (d + length p) k v) (put_inner E kind ks (d + length p) k v))
put_atop E p (prefix q a) d k v H h =
    let s : shared (p ++ q) (drop d (E.walked k)) ≡ length p + shared q (drop (d + length p) (E.walked k)) = rw (drop_drop (E.walked k) d (length p)) at (shared_on p q (drop d (E.walked k)) h) in
    let t : eqb (shared (p ++ q) (drop d (E.walked k))) (length (p ++ q)) ≡ eqb (shared q (drop (d + length p) (E.walked k))) (length q)
    = rw (s, length-append p q) (test_on (length p) (shared q (drop (d + length p) (E.walked k))) (length q)) in
    let n : d + length (p ++ q) ≡ d + length p + length q = omega (arith, length-append p q) in
    bool_cases (eqb (shared q (drop (d + length p) (E.walked k))) (length q))
    (λ u. let w = t ∙ u in rw (w, u, n) refl)
    (λ u. let w = t ∙ u in rw (w, u) (cut_atop E p q a d k v H h))

-- ---- erase

kept_is : (x y : Art) → kept x ≡ kept y → x ≡ y
kept_is x y e = cc

-- one child is left under a chain, and what is left still hangs below p
under_atop : (p q : List ℕ) (b : ℕ) (x : Art) (c : Change Left) (a' : Art) → length p ≡ prefix_most → Hung p a' → (under_prefix q b x c).now ≡ kept a'
    → under_prefix (p ++ q) b x c ≡ over (λ z. kept (atop p a')) (under_prefix q b x c)
under_atop p q b (leaf k v) c a' f H e = absurd (bad a' H (kept_is (leaf k v) a' e))
  where
    bad : (y : Art) → Hung p y → leaf k v ≡ y → ⊥
    bad (leaf k' v') H e = H
    bad (prefix t y) H e = let z : ◌≡◌ {A = ℕ} 0 1 = cc in omega arith
    bad (node kind ks) H e = let z : ◌≡◌ {A = ℕ} 0 1 = cc in omega arith
under_atop p q b (prefix t x) c a' f H e =
    let z : a' ≡ prefix (q ++ b ∷ t) x = sym (kept_is (prefix (q ++ b ∷ t) x) a' e) in
    rw (z, length-append p q, append_assoc p q (b ∷ t)) (same (prefix (p ++ (q ++ b ∷ t)) x) (prefix (q ++ b ∷ t) x))
  where
    same : (y y' : Art) → rechained (chain (length p + length q) + chain (length t)) (chain (length p + length q + suc (length t))) y c
        ≡ over (λ w. kept y) (rechained (chain (length q) + chain (length t)) (chain (length q + suc (length t))) y' c)
    same y y' = let m : chain (length p + length q + suc (length t)) - (chain (length p + length q) + chain (length t)) ≡ chain (length q + suc (length t)) - (chain (length q) + chain (length t)) = omega arith in
        let n : chain (length p + length q) + chain (length t) - chain (length p + length q + suc (length t)) ≡ chain (length q) + chain (length t) - chain (length q + suc (length t)) = omega arith in
        rw (m, n)
under_atop p q b (node kind ks) c a' f H e =
    let z : a' ≡ prefix (q ++ b ∷ []) (node kind ks) = sym (kept_is (prefix (q ++ b ∷ []) (node kind ks)) a' e) in
    rw (z, length-append p q, append_assoc p q (b ∷ [])) (same (prefix (p ++ (q ++ b ∷ [])) (node kind ks)) (prefix (q ++ b ∷ []) (node kind ks)))
  where
    same : (y y' : Art) → rechained (chain (length p + length q)) (chain (length p + length q + 1)) y c
        ≡ over (λ w. kept y) (rechained (chain (length q)) (chain (length q + 1)) y' c)
    same y y' = let m : chain (length p + length q + 1) - chain (length p + length q) ≡ chain (length q + 1) - chain (length q) = omega arith in
        let n : chain (length p + length q) - chain (length p + length q + 1) ≡ chain (length q) - chain (length q + 1) = omega arith in
        rw (m, n)

-- what is left of a tree below p: a node or a chain's rest again
close_atop : (p q : List ℕ) (l : Left) (c : Change Left) (a' : Art) → length p ≡ prefix_most → Hung p a' → (close_under q l c).now ≡ kept a' → (l ≡ gone → ⊥)
    → close_under (p ++ q) l c ≡ over (λ z. kept (atop p a')) (close_under q l c)
close_atop p q gone c a' f H e n = absurd (n refl)
close_atop p q (one b x) c a' f H e n = under_atop p q b x c a' f H e
close_atop p q (kept x) c a' f H e n = let z : a' ≡ prefix q x = sym (kept_is (prefix q x) a' e) in rw z

-- what is left of an inner node that keeps two children is one
less_inner : (kind : ℕ) (ks : Kids) (c : Change LeftKids) (a' : Art) → (less_one kind ks (over (λ x. gone) c)).now ≡ kept a' → is_inner a' ≡ true
less_inner kind nil c a' e = clash (cc)
less_inner kind (kid b j a nil) c a' e = clash (cc)
less_inner kind (kid b j a (kid b' j' x ks)) c a' e = bool_cases (eqb (count (kid b j a (kid b' j' x ks))) (shrink_mark kind))
    (λ t. let z = rw t at e in rw (sym (kept_is (node (kind_down kind) (carried (kind_down kind) (kid b j a (kid b' j' x ks)))) a' z)) refl)
    (λ t. let z = rw t at e in rw (sym (kept_is (node kind (kid b j a (kid b' j' x ks))) a' z)) refl)

after_inner : (kind : ℕ) (l : LeftKids) (c : Change LeftKids) (a' : Art) → (after_kids kind l c).now ≡ kept a' → is_inner a' ≡ true
after_inner kind (fewer ks) c a' e = less_inner kind ks c a' e
after_inner kind (still ks) c a' e = rw (sym (kept_is (node kind ks) a' e)) refl

under_node : (p : List ℕ) (l : Left) (c : Change Left) (a' : Art) → l ≡ kept a' → is_inner a' ≡ true → close_under p l c ≡ over (λ z. kept (atop p a')) c
under_node p l c a' e i = rw (e, inner_atop p a' i)

pub erase_atop : (E : Edition) (p : List ℕ) (a a' : Art) (d : ℕ) (k : List ℕ) (c : Change Left) → Hung p a → Hung p a' → shared p (drop d (E.walked k)) ≡ length p
    → erase_tree E a (d + length p) k ≡ c → c.now ≡ kept a' → erase_tree E (atop p a) d k ≡ over (λ z. kept (atop p a')) c
erase_atop E p (leaf k' v') a' d k c H H' h q n = absurd H
erase_atop E p (node kind ks) a' d k c H H' h q n =
    let m : (erase_tree E (node kind ks) (d + length p) k).now ≡ kept a' = ap (λ (x : Change Left). x.now) q ∙ n in
    let x = erase_kids E ks (d + length p) k in
    rw (eq-eqb (shared p (drop d (E.walked k))) (length p) h)
    (under_node p (erase_tree E (node kind ks) (d + length p) k).now (erase_tree E (node kind ks) (d + length p) k) a' m (after_inner kind x.now x a' m)
    ∙ ap (λ (y : Change Left). over (λ z. kept (atop p a')) y) q)
erase_atop E p (prefix t a) a' d k c H H' h q n =
    let s : shared (p ++ t) (drop d (E.walked k)) ≡ length p + shared t (drop (d + length p) (E.walked k)) = rw (drop_drop (E.walked k) d (length p)) at (shared_on p t (drop d (E.walked k)) h) in
    let u : eqb (shared (p ++ t) (drop d (E.walked k))) (length (p ++ t)) ≡ eqb (shared t (drop (d + length p) (E.walked k))) (length t)
    = rw (s, length-append p t) (test_on (length p) (shared t (drop (d + length p) (E.walked k))) (length t)) in
    let j : d + length (p ++ t) ≡ d + length p + length t = omega (arith, length-append p t) in
    bool_cases (eqb (shared t (drop (d + length p) (E.walked k))) (length t))
    (λ w. let w' = u ∙ w in let q' = rw w at q in
    let deep = erase_tree E a (d + length p + length t) k in
    let m : (close_under t deep.now deep).now ≡ kept a' = ap (λ (x : Change Left). x.now) q' ∙ n in
    rw (w', j) (close_atop p t deep.now deep a' H H' m (gone_not t deep.now deep a' refl m) ∙ ap (λ (y : Change Left). over (λ z. kept (atop p a')) y) q'))
    (λ w. let w' = u ∙ w in let q' = rw w at q in
    let z : prefix t a ≡ a' = kept_is (prefix t a) a' (ap (λ (x : Change Left). x.now) q' ∙ n) in
    rw w' (rw (sym q', sym z) refl))
  where
    gone_not : (t : List ℕ) (l : Left) (x : Change Left) (a' : Art) → x.now ≡ l → (close_under t l x).now ≡ kept a' → l ≡ gone → ⊥
    gone_not t gone x a' e m g = let z : ◌≡◌ {A = ℕ} 0 1 = clash_of x a' e m in omega arith
      where
        clash_of : (x : Change Left) (a' : Art) → x.now ≡ gone → x.now ≡ kept a' → ◌≡◌ {A = ℕ} 0 1
        clash_of x a' e m = cc
    gone_not t (one b y) x a' e m g = let z : ◌≡◌ {A = ℕ} 0 1 = cc in omega arith
    gone_not t (kept y) x a' e m g = let z : ◌≡◌ {A = ℕ} 0 1 = cc in omega arith

-- ---- the packed image

pub packed_atop : (p : List ℕ) (a : Art) → packed (atop p a) ≡ atop p (packed a)
packed_atop p (leaf k v) = refl
packed_atop p (prefix q a) = refl
packed_atop p (node kind ks) = refl

pub packed_hung : (p : List ℕ) (a : Art) → Hung p a → Hung p (packed a)
packed_hung p (leaf k v) H = H
packed_hung p (prefix q a) H = H
packed_hung p (node kind ks) H = H

-- one body, whether it stands alone or before the rest of a chain
module _ (p : List ℕ) (some : 1 ≤ length p) (most : length p ≤ prefix_most) where
  pub atop_slots : (a : Art) → Hung p a → slots (atop p a) ≡ 1 + slots a
  atop_slots (leaf k v) H = absurd H
  atop_slots (prefix q a) H = rw (length-append p q) (omega arith)
  atop_slots (node kind ks) H = omega arith

  pub atop_size : (a : Art) → Hung p a → size (atop p a) ≡ body_size prefix_kind + size a
  atop_size (leaf k v) H = absurd H
  atop_size (prefix q a) H = rw (length-append p q) (omega arith)
  atop_size (node kind ks) H = omega arith

  one_more : (q : List ℕ) → length p ≡ prefix_most → chain (length (p ++ q)) ≡ suc (chain (length q))
  one_more q H = omega (arith, length-append p q)

  only_one : chain (length p) ≡ 1
  only_one = omega arith

  pub atop_entries : (a : Art) (o : ℕ) → Hung p a → entries (atop p a) o ≡ entry_of prefix_kind o ∷ entries a (o + body_size prefix_kind)
  atop_entries (leaf k v) o H = absurd H
  atop_entries (prefix q a) o H =
      let z : o + suc (chain (length q)) * body_size prefix_kind ≡ o + body_size prefix_kind + chain (length q) * body_size prefix_kind = omega arith in
      rw (one_more q H, z)
  atop_entries (node kind ks) o H = rw only_one

  abbrev pub prefix_body : ℕ → List ℕ
  prefix_body s = padded 16 (digits 4 (s + 1) ++ digits 2 (length p)) ++ padded prefix_most p

  only_body : (on : ℕ → ℕ → List ℕ) (s o n : ℕ) → n ≡ 1 → chain_bodies n p s ++ on (s + n) (o + n * body_size prefix_kind) ≡ prefix_body s ++ on (s + 1) (o + body_size prefix_kind)
  only_body on s o n e = rw (e, take_all prefix_most p most) (ap (λ (x : List ℕ). x ++ on (s + 1) (o + body_size prefix_kind)) (append-nil (prefix_body s)))

  pub atop_bodies : (a : Art) (s o : ℕ) → Hung p a → bodies (atop p a) s o ≡ prefix_body s ++ bodies a (s + 1) (o + body_size prefix_kind)
  atop_bodies (leaf k v) s o H = absurd H
  atop_bodies (prefix q a) s o H =
      let n = chain (length q) in
      let z : o + suc n * body_size prefix_kind ≡ o + body_size prefix_kind + n * body_size prefix_kind = omega arith in
      let y : s + suc n ≡ s + 1 + n = omega arith in
      let t : take prefix_most (p ++ q) ≡ p = rw (sym H) (take-append_seam p q) in
      let u : drop prefix_most (p ++ q) ≡ q = rw (sym H) (drop-append_seam p q) in
      rw (one_more q H, z, y, t, u) (append_assoc (prefix_body s) (chain_bodies n q (s + 1)) (bodies a (s + 1 + n) (o + body_size prefix_kind + n * body_size prefix_kind)))
  atop_bodies (node kind ks) s o H = only_body (bodies (node kind ks)) s o (chain (length p)) only_one
