-- Put on a well-formed tree: the tree stays well-formed, its records are the old with the key's put in, and the key was new exactly
-- if it was absent. Assumes nothing.
use Prim.Native.Nat.{ℕ, suc, ◌+◌, ◌<◌, ◌≤◌, zero-le}
use native.Mathlib.Omega.{arith}
use mathlib.Core.Path.{◌≡◌, refl, ap, sym, ◌∙◌}
use mathlib.Core.List.{List, [], ◌∷◌, ◌++◌, append_assoc, append-nil}
use mathlib.Core.Bool.{true, false}
use mathlib.Core.Option.{Option, none, some}
use mathlib.Core.Logic.{◌≢◌}
use lib.ListN.{length, drop, get_or}
use lib.Seq.{take-append_seam, get_or-append_seam}
use lib.Dec.{eqb, lit<, lit≤}
use borrow.Author.Tests.{ne_eqb}
use Rattle.layout.specs.Kind.{node4_kind, node48_kind, most, kind_up}
use Rattle.layout.specs.Kind.Inner.{node4}
use Rattle.model.specs.Strings.{same, Parted, Byte}
use Rattle.model.specs.Edition.{Edition, Legal, LegalValue, Lawful, Value, text_of}
use Rattle.model.specs.Tree.{Art, Kids, count, has, taken, place_in, carried, as_prefix, fork, Change, over, put_leaf, cut_prefix, add_child, put_tree, put_kids, is_inner}
use Rattle.model.specs.Tree.Art.{leaf, prefix, node}
use Rattle.model.specs.Tree.Kids.{nil, kid}
use Rattle.model.specs.Records.{Record, records, records_kids, records_of, lookup, upsert, absent, Ahead}
use Rattle.model.specs.State.{put_in}
use Rattle.model.proofs.StringLaws.{bool_cases, eqb_cases, ltb_cases, clash, all_right, shared_at, same_false}
use Rattle.model.proofs.SetLaws.{all_keys_map, Other, lookup_none, lookup_after, lookup_before, upsert_after, upsert_before}
use Rattle.model.proofs.Well.{Distinct, Zeros, Placed, Starts, PrefixW, NodeW, Well, WellKids}
use Rattle.model.proofs.GoodState.{TreeOk}
use Rattle.model.proofs.WellLaws.{Walk, walk_start, walk_rest, walk_as, walk_byte, walk_skip, walk_step, walk_starts, inside_bytes, parted_from, walk_on, walk_lt, ahead_kids, node_inside, inner_inside}
use Rattle.model.proofs.FindLaws.{AtPrefix, other_kid, other_kids, at_prefix, other_below}
use Rattle.model.proofs.FindLaws.AtPrefix.{along, aside}
use Rattle.model.proofs.KidsLaws.{carried_records, carried_has, kids_ahead, join_records, carried_well, joined_well, grown_well}

-- what has to hold of a tree at a path after a put, of the tree of a frame, and of a run of children
pub record PutOk (E : Edition) (a : Art) (path k : List ℕ) (v : Value) (c : Change Art) : Type 0 where
  pub well : Well E c.now path
  pub set : records c.now ≡ upsert k v (records a)
  pub new : c.fresh ≡ absent (lookup k (records a))
  pub inner : is_inner a ≡ true → is_inner c.now ≡ true

pub record PutInOk (E : Edition) (t : Option Art) (k : List ℕ) (v : Value) (c : Change Art) : Type 0 where
  pub well : Well E c.now []
  pub set : records c.now ≡ upsert k v (records_of t)
  pub new : c.fresh ≡ absent (lookup k (records_of t))

pub record PutKidsOk (E : Edition) (ks : Kids) (path : List ℕ) (lo : ℕ) (k : List ℕ) (v : Value) (c : Change Kids) : Type 0 where
  pub well : WellKids E c.now path lo
  pub set : records_kids c.now ≡ upsert k v (records_kids ks)
  pub new : c.fresh ≡ absent (lookup k (records_kids ks))
  pub size : count c.now ≡ count ks
  pub places : (m : ℕ) → taken m c.now ≡ taken m ks
  pub zeros : Zeros ks → Zeros c.now
  pub distinct : Distinct ks → Distinct c.now

pub as_prefix_records : (p : List ℕ) (a : Art) → records (as_prefix p a) ≡ records a
as_prefix_records [] a = refl
as_prefix_records (x ∷ p) a = refl

-- what stays after the byte at which a string parts
pub drop_past : (w : List ℕ) (c : ℕ) (t : List ℕ) → drop (suc (length w)) (w ++ c ∷ t) ≡ t
drop_past [] c t = refl
drop_past (x ∷ w) c t = drop_past w c t

pub placed_as : (kind : ℕ) (ks ls : Kids) → (Zeros ks → Zeros ls) → (Distinct ks → Distinct ls) → Placed kind ks → Placed kind ls
placed_as kind ks ls f g h = bool_cases (eqb kind node48_kind) (λ t. rw t (g (rw t at h))) (λ t. rw t (f (rw t at h)))

module _ {E : Edition} (L : Lawful E) where
  -- ---- a Prefix where it is needed

  pub as_prefix_well : (p : List ℕ) (a : Art) (path : List ℕ) → is_inner a ≡ true → Well E a (path ++ p) → Well E (as_prefix p a) path
  as_prefix_well [] a path e h = rw (append-nil path) at h
  as_prefix_well (x ∷ p) a path e h =
      let i = inner_inside L a (path ++ x ∷ p) e h in
      (record { some = omega arith; chars = all_right Byte path (x ∷ p) (inside_bytes L (path ++ x ∷ p) i); inner = e }, h)

  -- ---- a key and a tree part after w
  fork_well : (path w : List ℕ) (b c : ℕ) (k : List ℕ) (v : Value) (y : Art) → Starts E (path ++ w ++ b ∷ []) k → LegalValue E v → Well E y (path ++ w ++ c ∷ []) → b ≢ c → b < 256 → c < 256
      → Well E (as_prefix w (fork b (leaf k v) c y)) path
  fork_well path w b c k v y s f h n l l' =
      as_prefix_well w (fork b (leaf k v) c y) path refl
      (joined_well L node4_kind b (leaf k v) (kid c 0 y nil) (path ++ w) node4 (lit≤ tt) (lit< tt) (refl, tt) (zero-le, l', h, tt) l (record { starts = s; fits = f }) (rw (ne_eqb b c n)))

  fork_records : (path w : List ℕ) (b c : ℕ) (k : List ℕ) (v : Value) (y : Art) → Starts E (path ++ w ++ b ∷ []) k → Well E y (path ++ w ++ c ∷ []) → b ≢ c → c < 256
      → records (as_prefix w (fork b (leaf k v) c y)) ≡ upsert k v (records y)
  fork_records path w b c k v y s h n l' =
      as_prefix_records w (fork b (leaf k v) c y)
      ∙ join_records L b 0 k v (kid c 0 y nil) (path ++ w) 0 (zero-le, l', h, tt) s (rw (ne_eqb b c n))
      ∙ ap (λ (z : List Record). upsert k v z) (append-nil (records y))

  -- ---- at a Leaf

  put_leaf_same : (path k : List ℕ) (v : Value) (k' : List ℕ) (v' : Value) (d : ℕ) → Starts E path k → LegalValue E v → same k k' ≡ true → PutOk E (leaf k' v') path k v (put_leaf E d k v k' v')
  put_leaf_same path k v k' v' d h f e = bool_cases (eqb (length (text_of v)) (length (text_of v')))
      (λ t. rw (e, t) record { well = record { starts = h; fits = f }; set = rw e; new = rw e; inner = λ z. clash (cc) })
      (λ t. rw (e, t) record { well = record { starts = h; fits = f }; set = rw e; new = rw e; inner = λ z. clash (cc) })

  put_leaf_apart : (path w : List ℕ) (b : ℕ) (s : List ℕ) (c : ℕ) (t k : List ℕ) (v : Value) (k' : List ℕ) (v' : Value) (d : ℕ) → LegalValue E v → LegalValue E v' → same k k' ≡ false
      → Walk E path d k (w ++ b ∷ s) → Walk E path d k' (w ++ c ∷ t) → b ≢ c → PutOk E (leaf k' v') path k v (put_leaf E d k v k' v')
  put_leaf_apart path w b s c t k v k' v' d f f' e x y n =
      let x' = walk_skip w (b ∷ s) x in let y' = walk_skip w (c ∷ t) y in
      let sk = walk_starts s (walk_step b s x') in let sl = walk_starts t (walk_step c t y') in
      rw (e, walk_rest (w ++ b ∷ s) x, walk_rest (w ++ c ∷ t) y, shared_at w b s c t n, take-append_seam w (b ∷ s), get_or-append_seam w b s 0, get_or-append_seam w c t 0)
      record {
        well = fork_well path w b c k v (leaf k' v') sk f (record { starts = sl; fits = f' }) n (walk_lt L b s x') (walk_lt L c t y');
        set = fork_records path w b c k v (leaf k' v') sk (record { starts = sl; fits = f' }) n (walk_lt L c t y');
        new = rw e;
        inner = λ z. clash (cc);
      }

  put_leaf_lem : (path k : List ℕ) (v : Value) (k' : List ℕ) (v' : Value) (r : List ℕ) (d : ℕ) → Well E (leaf k' v') path → Walk E path d k r → LegalValue E v → PutOk E (leaf k' v') path k v (put_leaf E d k v k' v')
  put_leaf_lem path k v k' v' r d h w f = bool_cases (same k k')
      (λ e. put_leaf_same path k v k' v' d (walk_starts r w) f e)
      (λ e. go e (parted_from L path k k' r h.starts.rest w.legal h.starts.legal (same_false k k' e) w.word h.starts.word))
    where
      w' : Walk E path d k' h.starts.rest
      w' = record { deep = w.deep; legal = h.starts.legal; word = h.starts.word }

      go : same k k' ≡ false → Parted r h.starts.rest → PutOk E (leaf k' v') path k v (put_leaf E d k v k' v')
      go e p = put_leaf_apart path p.w p.b p.s p.c p.t k v k' v' d f h.fits e
          (walk_as r (p.w ++ p.b ∷ p.s) p.left w) (walk_as h.starts.rest (p.w ++ p.c ∷ p.t) p.right w') p.apart

  -- ---- at a Prefix that the key leaves

  put_split : (p : List ℕ) (a : Art) (path w : List ℕ) (b : ℕ) (s : List ℕ) (c : ℕ) (t k : List ℕ) (v : Value) (d : ℕ) → LegalValue E v
      → Walk E path d k (w ++ b ∷ s) → p ≡ w ++ c ∷ t → b ≢ c → Well E (prefix p a) path → PutOk E (prefix p a) path k v (cut_prefix E d k v p a)
  put_split p a path w b s c t k v d f x e n h =
      let x' = walk_skip w (b ∷ s) x in
      let sk = walk_starts s (walk_step b s x') in
      let h' : Well E a (path ++ (w ++ c ∷ t)) = rw e at h.1 in
      let o : path ++ (w ++ c ∷ t) ≡ path ++ w ++ c ∷ [] ++ t = simp append_assoc in
      let y = as_prefix_well t a (path ++ w ++ c ∷ []) h.0.inner (rw o at h') in
      let l = (all_right Byte w (c ∷ t) (rw e at h.0.chars)).0 in
      rw (e, walk_rest (w ++ b ∷ s) x, shared_at w c t b s (λ q. n (sym q)), drop_past w c t, take-append_seam w (c ∷ t), get_or-append_seam w b s 0, get_or-append_seam w c t 0)
      record {
        well = fork_well path w b c k v (as_prefix t a) sk f y n (walk_lt L b s x') l;
        set = fork_records path w b c k v (as_prefix t a) sk y n l ∙ rw (as_prefix_records t a);
        new = rw (lookup_none k (records a) (other_below L a path w b c t k h' sk n));
        inner = λ z. clash (cc);
      }

  -- ---- at an inner node without that byte

  put_add : (kind : ℕ) (ks : Kids) (path : List ℕ) (b : ℕ) (s k : List ℕ) (v : Value) (d : ℕ) → LegalValue E v
      → Walk E path d k (b ∷ s) → has b ks ≡ false → Well E (node kind ks) path → PutOk E (node kind ks) path k v (add_child E d k v kind ks)
  put_add kind ks path b s k v d f w e h =
      let sk = walk_starts s (walk_step b s w) in
      let x : Well E (leaf k v) (path ++ b ∷ []) = record { starts = sk; fits = f } in
      let l = walk_lt L b s w in
      let none_of = lookup_none k (records_kids ks) (other_kids L ks path 0 b k h.1 sk e) in
      ltb_cases (count ks) (most kind)
      (λ t o. rw (walk_byte b s w, t) record {
        well = joined_well L kind b (leaf k v) ks path h.0.sort (le_suc h.0.least) o h.0.places h.1 l x e;
        set = join_records L b (place_in kind ks) k v ks path 0 h.1 sk e;
        new = rw none_of;
        inner = λ z. refl;
      })
      (λ t o. rw (walk_byte b s w, t) record {
        well = grown_well L kind b (leaf k v) ks path h.0 o h.1 l x e;
        set = join_records L b (place_in (kind_up kind) (carried (kind_up kind) ks)) k v (carried (kind_up kind) ks) path 0 (carried_well L (kind_up kind) ks path 0 h.1) sk (rw (carried_has (kind_up kind) ks b) e)
            ∙ rw (carried_records (kind_up kind) ks);
        new = rw none_of;
        inner = λ z. refl;
      })
    where
      le_suc : {m n : ℕ} → m ≤ n → m ≤ suc n
      le_suc o = omega arith

  -- ---- further down

  put_under : (p : List ℕ) (a : Art) (path k : List ℕ) (v : Value) (c : Change Art) → PrefixW p a → PutOk E a (path ++ p) k v c → PutOk E (prefix p a) path k v (over (λ x. prefix p x) c)
  put_under p a path k v c h o = record {
    well = (record { some = h.some; chars = h.chars; inner = o.inner h.inner }, o.well);
    set = o.set;
    new = o.new;
    inner = λ z. clash (cc);
  }

  put_in_lem : (kind : ℕ) (ks : Kids) (path k : List ℕ) (v : Value) (c : Change Kids) → NodeW kind ks → PutKidsOk E ks path 0 k v c → PutOk E (node kind ks) path k v (over (λ x. node kind x) c)
  put_in_lem kind ks path k v c h o = record {
    well = (record { sort = h.sort; least = rw o.size h.least; at_most = rw o.size h.at_most; places = placed_as kind ks c.now o.zeros o.distinct h.places }, o.well);
    set = o.set;
    new = o.new;
    inner = λ z. refl;
  }

  put_here : (q j : ℕ) (a : Art) (ks : Kids) (path : List ℕ) (lo : ℕ) (k : List ℕ) (v : Value) (b : ℕ) (c : Change Art) → WellKids E (kid q j a ks) path lo
      → Starts E (path ++ b ∷ []) k → q ≡ b → PutOk E a (path ++ q ∷ []) k v c → PutKidsOk E (kid q j a ks) path lo k v (over (λ x. kid q j x ks) c)
  put_here q j a ks path lo k v b c h s e o =
      let ah = ahead_kids L ks path (suc q) b k h.3 s (omega arith) in
      record {
        well = (h.0, h.1, o.well, h.3);
        set = rw o.set (sym (upsert_before k v (records a) (records_kids ks) ah));
        new = o.new ∙ rw (lookup_before k (records a) (records_kids ks) (all_keys_map (Ahead k) (Other k) (λ l f. f.ne) (records_kids ks) ah));
        size = refl;
        places = λ m. refl;
        zeros = λ z. z;
        distinct = λ z. z;
      }

  has_ge : (ks : Kids) (path : List ℕ) (lo b : ℕ) → WellKids E ks path lo → has b ks ≡ true → lo ≤ b
  has_ge nil path lo b h e = clash (cc)
  has_ge (kid c j a ks) path lo b h e = eqb_cases b c
      (λ t q. omega arith)
      (λ t n. let on = has_ge ks path (suc c) b h.3 (rw t at e) in omega arith)

  put_on : (q j : ℕ) (a : Art) (ks : Kids) (path : List ℕ) (lo : ℕ) (k : List ℕ) (v : Value) (b : ℕ) (c : Change Kids) → WellKids E (kid q j a ks) path lo
      → Starts E (path ++ b ∷ []) k → has b ks ≡ true → PutKidsOk E ks path (suc q) k v c → PutKidsOk E (kid q j a ks) path lo k v (over (λ xs. kid q j a xs) c)
  put_on q j a ks path lo k v b c h s e o =
      let l = has_ge ks path (suc q) b h.3 e in
      record {
        well = (h.0, h.1, h.2, o.well);
        set = rw o.set (sym (upsert_after k v (records a) (records_kids ks) (kids_ahead L a path q b k h.2 s l)));
        new = o.new ∙ rw (lookup_after k (records a) (records_kids ks) (other_kid L a path b q k h.2 s (omega arith)));
        size = ap suc o.size;
        places = λ m. rw (o.places m);
        zeros = λ z. (z.0, o.zeros z.1);
        distinct = λ z. (z.0, z.1, o.places j ∙ z.2, o.distinct z.3);
      }

  put_at_prefix : (p : List ℕ) (a : Art) (path k : List ℕ) (v : Value) (d : ℕ) → Well E (prefix p a) path → LegalValue E v → AtPrefix E p path d k
      → ((r : List ℕ) → Walk E (path ++ p) (d + length p) k r → PutOk E a (path ++ p) k v (put_tree E a (d + length p) k v))
      → PutOk E (prefix p a) path k v (put_tree E (prefix p a) d k v)
  put_at_prefix p a path k v d h f (along r e w) ih = rw e (put_under p a path k v (put_tree E a (d + length p) k v) h.0 (ih r (walk_skip p r w)))
  put_at_prefix p a path k v d h f (aside x b s c t e w g n) ih = rw e (put_split p a path x b s c t k v d f w g n h)

  mutual
    pub put_ok : (a : Art) (path : List ℕ) → Well E a path → (d : ℕ) (k : List ℕ) (v : Value) (r : List ℕ) → Walk E path d k r → LegalValue E v → PutOk E a path k v (put_tree E a d k v)
    put_ok (leaf l u) path h d k v r w f = put_leaf_lem path k v l u r d h w f
    put_ok (prefix p a) path h d k v r w f =
        put_at_prefix p a path k v d h f (at_prefix L p path d k r (inner_inside L a (path ++ p) h.0.inner h.1) w)
        (λ r' w'. put_ok a (path ++ p) h.1 (d + length p) k v r' w' f)
    put_ok (node kind ks) path h d k v r w f =
        let o = walk_on L r (node_inside L kind ks path h) w in
        let b = o.0 in let s = o.1 in let w' = o.2 in
        bool_cases (has b ks)
        (λ e. let e' : has (get_or (E.walked k) d 0) ks ≡ true = rw (walk_byte b s w') e in
        rw e' (put_in_lem kind ks path k v (put_kids E ks d k v) h.0 (put_kids_ok ks path 0 h.1 d k v b s w' f e)))
        (λ e. let e' : has (get_or (E.walked k) d 0) ks ≡ false = rw (walk_byte b s w') e in
        rw e' (put_add kind ks path b s k v d f w' e h))

    pub put_kids_ok : (ks : Kids) (path : List ℕ) (lo : ℕ) → WellKids E ks path lo → (d : ℕ) (k : List ℕ) (v : Value) (b : ℕ) (s : List ℕ) → Walk E path d k (b ∷ s) → LegalValue E v
        → has b ks ≡ true → PutKidsOk E ks path lo k v (put_kids E ks d k v)
    put_kids_ok nil path lo h d k v b s w f e = clash (cc)
    put_kids_ok (kid c j a ks) path lo h d k v b s w f e =
        let sk = walk_starts s (walk_step b s w) in
        eqb_cases c b
        (λ t q. rw (walk_byte b s w, t) (put_here c j a ks path lo k v b (put_tree E a (d + 1) k v) h sk q
        (put_ok a (path ++ c ∷ []) h.2 (d + 1) k v s (rw q (walk_step b s w)) f)))
        (λ t n. let e' : has b ks ≡ true = rw (ne_eqb b c (λ q. n (sym q))) at e in
        rw (walk_byte b s w, t) (put_on c j a ks path lo k v b (put_kids E ks d k v) h sk e' (put_kids_ok ks path (suc c) h.3 d k v b s w f e')))

  -- a tree at the root
  pub put_tree_lem : (a : Art) (k : List ℕ) (v : Value) → Well E a [] → Legal E k → LegalValue E v → PutOk E a [] k v (put_tree E a 0 k v)
  put_tree_lem a k v h l f = put_ok a [] h 0 k v (E.walked k) (walk_start k l) f

  -- and what stands at the root of any frame
  pub put_in_ok : (t : Option Art) (k : List ℕ) (v : Value) → TreeOk E t → Legal E k → LegalValue E v → PutInOk E t k v (put_in E t k v)
  put_in_ok none k v h l f = record { well = record { starts = record { legal = l; rest = E.walked k; word = refl }; fits = f }; set = refl; new = refl }
  put_in_ok (some a) k v h l f = let o = put_tree_lem a k v h l f in record { well = o.well; set = o.set; new = o.new }
