-- The kinds that put and erase take and free are kinds, and none that is freed is 3. Assumes nothing.
use Prim.Native.Nat.{ℕ, zero, suc, ◌+◌, ◌-◌, ◌≤◌}
use native.Mathlib.Omega.{arith}
use mathlib.Core.List.{List, [], ◌∷◌, ◌++◌}
use lib.ListN.{length, drop, get_or}
use lib.Dec.{ltb, eqb, lit≤}
use Rattle.layout.specs.Kind.{most, shrink_mark, kind_up, kind_down, Inner}
use Rattle.layout.specs.Kind.Inner.{node4, node16, node48, node256}
use Rattle.model.specs.Strings.{same, shared}
use Rattle.model.specs.Edition.{Edition, Lawful, Value, text_of}
use Rattle.model.specs.Tree.{Art, Kids, count, has, chain, prefixes, rechained, Change, over, put_leaf, cut_prefix, add_child, put_tree, put_kids, Left, LeftKids, less_one, lone_child, under_prefix, close, close_under, after_kids, erase_tree, erase_kids}
use Rattle.model.specs.Tree.Art.{leaf, prefix, node}
use Rattle.model.specs.Tree.Kids.{nil, kid}
use Rattle.model.specs.Tree.Left.{gone, one, kept}
use Rattle.model.specs.Tree.LeftKids.{fewer, still}
use Rattle.model.proofs.StringLaws.{bool_cases}
use Rattle.model.proofs.Well.{Well, WellKids}
use Rattle.model.proofs.BookLaws.{Kinds, Listed}

pub record KindsOk {A : Type 0} (c : Change A) : Type 0 where
  pub takes : Kinds c.takes
  pub frees : Listed c.frees

-- an inner kind, and the kinds beside it
abbrev Near : ℕ → Type 0
Near kind = (4 ≤ kind) × (kind ≤ 7) × (kind_up kind ≤ 8) × (kind_down kind ≤ 8)

near : {kind : ℕ} → Inner kind → Near kind
near node4 = omega arith
near node16 = omega arith
near node48 = omega arith
near node256 = omega arith

prefixes_kinds : (n : ℕ) (ks : List ℕ) → Kinds ks → Kinds (prefixes n ++ ks)
prefixes_kinds zero ks h = h
prefixes_kinds (suc n) ks h = (lit≤ tt, prefixes_kinds n ks h)

prefixes_listed : (n : ℕ) (ks : List ℕ) → Listed ks → Listed (prefixes n ++ ks)
prefixes_listed zero ks h = h
prefixes_listed (suc n) ks h = (omega arith, prefixes_listed n ks h)

prefixes_alone : (n : ℕ) → Kinds (prefixes n)
prefixes_alone zero = tt
prefixes_alone (suc n) = (lit≤ tt, prefixes_alone n)

prefixes_freed : (n : ℕ) → Listed (prefixes n)
prefixes_freed zero = tt
prefixes_freed (suc n) = (omega arith, prefixes_freed n)

re_kinds : (m n : ℕ) (x : Art) (c : Change Left) → KindsOk c → KindsOk (rechained m n x c)
re_kinds m n x c h = record { takes = prefixes_kinds (n - m) c.takes h.takes; frees = prefixes_listed (m - n) c.frees h.frees }

lone_kinds : (b : ℕ) (x : Art) (c : Change Left) → KindsOk c → KindsOk (lone_child b x c)
lone_kinds b (leaf k v) c h = record { takes = h.takes; frees = h.frees }
lone_kinds b (prefix p a) c h = re_kinds (chain (length p)) (chain (suc (length p))) (prefix (b ∷ p) a) c h
lone_kinds b (node kind ks) c h = record { takes = (lit≤ tt, h.takes); frees = h.frees }

under_kinds : (p : List ℕ) (b : ℕ) (x : Art) (c : Change Left) → KindsOk c → KindsOk (under_prefix p b x c)
under_kinds p b (leaf k v) c h = record { takes = h.takes; frees = prefixes_listed (chain (length p)) c.frees h.frees }
under_kinds p b (prefix t a) c h = re_kinds (chain (length p) + chain (length t)) (chain (length p + suc (length t))) (prefix (p ++ b ∷ t) a) c h
under_kinds p b (node kind ks) c h = re_kinds (chain (length p)) (chain (length p + 1)) (prefix (p ++ b ∷ []) (node kind ks)) c h

pub close_kinds : (l : Left) (c : Change Left) → KindsOk c → KindsOk (close l c)
close_kinds gone c h = h
close_kinds (one b x) c h = lone_kinds b x c h
close_kinds (kept x) c h = h

close_under_kinds : (p : List ℕ) (l : Left) (c : Change Left) → KindsOk c → KindsOk (close_under p l c)
close_under_kinds p gone c h = h
close_under_kinds p (one b x) c h = under_kinds p b x c h
close_under_kinds p (kept x) c h = record { takes = h.takes; frees = h.frees }

less_kinds : (kind : ℕ) (ls : Kids) (c : Change Left) → Near kind → KindsOk c → KindsOk (less_one kind ls c)
less_kinds kind nil c o h = h
less_kinds kind (kid b j a nil) c o h = record { takes = h.takes; frees = (omega arith, h.frees) }
less_kinds kind (kid b j a (kid b' j' a' ls)) c o h = bool_cases (eqb (count (kid b j a (kid b' j' a' ls))) (shrink_mark kind))
    (λ t. rw t record { takes = (omega arith, h.takes); frees = (omega arith, h.frees) })
    (λ t. rw t record { takes = h.takes; frees = h.frees })

after_kinds : (kind : ℕ) (l : LeftKids) (c : Change LeftKids) → Near kind → KindsOk c → KindsOk (after_kids kind l c)
after_kinds kind (fewer ls) c o h = less_kinds kind ls (over (λ x. gone) c) o record { takes = h.takes; frees = h.frees }
after_kinds kind (still ls) c o h = record { takes = h.takes; frees = h.frees }

module _ {E : Edition} (L : Lawful E) where
  leaf_kinds : (d : ℕ) (k : List ℕ) (v : Value) (k' : List ℕ) (v' : Value) → KindsOk (put_leaf E d k v k' v')
  leaf_kinds d k v k' v' = bool_cases (same k k')
      (λ e. bool_cases (eqb (length (text_of v)) (length (text_of v'))) (λ t. rw (e, t) record { takes = tt; frees = tt }) (λ t. rw (e, t) record { takes = tt; frees = tt }))
      (λ e. rw e record { takes = (lit≤ tt, (lit≤ tt, prefixes_alone (chain (shared (drop d (E.walked k)) (drop d (E.walked k')))))); frees = tt })

  split_kinds_lem : (d : ℕ) (k : List ℕ) (v : Value) (p : List ℕ) (a : Art) → KindsOk (cut_prefix E d k v p a)
  split_kinds_lem d k v p a = let q = shared p (drop d (E.walked k)) in let n = length (drop (suc q) p) in
      record { takes = (lit≤ tt, (lit≤ tt, prefixes_alone (chain q + chain n - chain (length p)))); frees = prefixes_freed (chain (length p) - (chain q + chain n)) }

  add_kinds : (d : ℕ) (k : List ℕ) (v : Value) (kind : ℕ) (ks : Kids) → Near kind → KindsOk (add_child E d k v kind ks)
  add_kinds d k v kind ks o = bool_cases (ltb (count ks) (most kind))
      (λ t. rw t record { takes = (lit≤ tt, tt); frees = tt })
      (λ t. rw t record { takes = (lit≤ tt, (omega arith, tt)); frees = (omega arith, tt) })

  mutual
    pub put_kinds : (a : Art) (path : List ℕ) → Well E a path → (d : ℕ) (k : List ℕ) (v : Value) → KindsOk (put_tree E a d k v)
    put_kinds (leaf k' v') path h d k v = leaf_kinds d k v k' v'
    put_kinds (prefix p a) path h d k v = let on = put_kinds a (path ++ p) h.1 (d + length p) k v in
        bool_cases (eqb (shared p (drop d (E.walked k))) (length p))
        (λ t. rw t record { takes = on.takes; frees = on.frees })
        (λ t. rw t (split_kinds_lem d k v p a))
    put_kinds (node kind ks) path h d k v = let on = put_kids_kinds ks path 0 h.1 d k v in
        bool_cases (has (get_or (E.walked k) d 0) ks)
        (λ t. rw t record { takes = on.takes; frees = on.frees })
        (λ t. rw t (add_kinds d k v kind ks (near h.0.sort)))

    put_kids_kinds : (ks : Kids) (path : List ℕ) (lo : ℕ) → WellKids E ks path lo → (d : ℕ) (k : List ℕ) (v : Value) → KindsOk (put_kids E ks d k v)
    put_kids_kinds nil path lo h d k v = record { takes = tt; frees = tt }
    put_kids_kinds (kid c j a ks) path lo h d k v =
        let here = put_kinds a (path ++ c ∷ []) h.2 (d + 1) k v in let on = put_kids_kinds ks path (suc c) h.3 d k v in
        bool_cases (eqb c (get_or (E.walked k) d 0))
        (λ t. rw t record { takes = here.takes; frees = here.frees })
        (λ t. rw t record { takes = on.takes; frees = on.frees })

  mutual
    pub erase_kinds : (a : Art) (path : List ℕ) → Well E a path → (d : ℕ) (k : List ℕ) → KindsOk (erase_tree E a d k)
    erase_kinds (leaf k' v') path h d k = bool_cases (same k k') (λ t. rw t record { takes = tt; frees = (omega arith, tt) }) (λ t. rw t record { takes = tt; frees = tt })
    erase_kinds (prefix p a) path h d k = let c = erase_tree E a (d + length p) k in let on = erase_kinds a (path ++ p) h.1 (d + length p) k in
        bool_cases (eqb (shared p (drop d (E.walked k))) (length p))
        (λ t. rw t (close_under_kinds p c.now c on))
        (λ t. rw t record { takes = tt; frees = tt })
    erase_kinds (node kind ks) path h d k = let c = erase_kids E ks d k in
        after_kinds kind c.now c (near h.0.sort) (erase_kids_kinds ks path 0 h.1 d k)

    erase_kids_kinds : (ks : Kids) (path : List ℕ) (lo : ℕ) → WellKids E ks path lo → (d : ℕ) (k : List ℕ) → KindsOk (erase_kids E ks d k)
    erase_kids_kinds nil path lo h d k = record { takes = tt; frees = tt }
    erase_kids_kinds (kid c j a ks) path lo h d k =
        let e = erase_tree E a (d + 1) k in let here = close_kinds e.now e (erase_kinds a (path ++ c ∷ []) h.2 (d + 1) k) in
        let on = erase_kids_kinds ks path (suc c) h.3 d k in
        bool_cases (eqb c (get_or (E.walked k) d 0))
        (λ t. rw t record { takes = here.takes; frees = here.frees })
        (λ t. rw t record { takes = on.takes; frees = on.frees })
