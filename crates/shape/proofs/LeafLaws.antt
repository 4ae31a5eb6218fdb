-- The test of a Leaf against its path, exit by exit. Assumes nothing.
use Prim.Native.Nat.{ℕ, ◌+◌, ◌-◌, ◌<◌, ◌≤◌}
use mathlib.Core.Path.{◌≡◌, refl, sym, ap, ◌∙◌}
use mathlib.Core.List.{List, ◌∷◌, []}
use mathlib.Core.Bool.{Bool}
use mathlib.Core.Logic.{⊎_elim}
use native.Mathlib.Omega.{arith}
use lib.ListN.{length, get_or, take, drop, length-append, length-take, length-drop, get_or-eq_default}
use lib.Seq.{get_or-take, get_or-drop}
use Rattle.std.specs.Prelude.{Some, None}
use Rattle.layout.specs.Number.{byte_at, le, Bytes}
use Rattle.layout.specs.Place.{leaf_extent, leaf_key, leaf_value, leaf_stamp}
use Rattle.layout.proofs.NumberLaws.{lt_or_le, le_lt}
use Rattle.model.specs.Edition.{Edition, edition2, Value, text_of}
use Rattle.model.specs.Tree.{up8}
use Rattle.model.specs.Body.{LeafAt}
use Rattle.model.proofs.Edition1.{zero_free, free_zero, positive_at, at_positive, walked_at}
use Rattle.pieces.specs.Decides.{Decides}
use Rattle.pieces.specs.Range.{Clean, Alike}
use Rattle.keys.specs.Word.{ended}
use Rattle.keys.proofs.KeyLaws.{text_part}
use Rattle.shape.specs.Shape.{ExtentFits, Ends, Under, PlainUnder, LeafHere, LeafTold}
use Rattle.pieces.proofs.DecideLaws.{clash, handed}
use Rattle.shape.proofs.BytesLaws as here
use Rattle.shape.proofs.BytesLaws.{bytes_from, bytes_long, bytes_append, text_left, BeginsAt, begins_at, at_begins}

-- ---- the key

-- the k bytes from e are a legal key of edition 1, and its walked string begins with a path: by their places
pub record PlainHere (f : List ℕ) (e k : ℕ) (path : List ℕ) : Type 0 where
  pub some : 1 ≤ k
  pub most : k ≤ 112
  pub short : length path ≤ k + 1
  pub clean : Clean f e (e + k)
  pub same : (i : ℕ) → i < length path → i < k → byte_at f (e + i) ≡ get_or path i 0
  pub end : k < length path → get_or path k 0 ≡ 0

module _ (f : List ℕ) (e k : ℕ) (path : List ℕ) where
  plain_here : (n : ℕ) → 1 ≤ k → k ≤ 112 → ((i : ℕ) → i < length path → i < k → i < n) → Ends path k (length path) → Alike f e path 0 n → Clean f e (e + k) → PlainHere f e k path
  plain_here n a z h E F C =
      record { some = a; most = z; short = E.short; clean = C; same = λ i x y. let z : 0 + i ≡ i = omega arith in rw z at (F i (h i x y)); end = E.end }

  module _ (room : e + k ≤ length f) where
    key_long : length (take k (drop e f)) ≡ k
    key_long = simp (length-take, length-drop) (omega arith)

    key_byte : (i : ℕ) → i < k → byte_at f (e + i) ≡ get_or (take k (drop e f)) i 0
    key_byte i l = rw (get_or-take k (drop e f) i 0 l, get_or-drop)

    pub plain_of : PlainUnder path (take k (drop e f)) → PlainHere f e k path
    plain_of U =
        let key = take k (drop e f) in
        let m = key_long in
        let chars = zero_free key U.clean in
        let B = begins_at (ended key) path U.begins in
        let W : (i : ℕ) → i < length path → get_or key i 0 ≡ get_or path i 0
        = λ i l. sym (walked_at key i) ∙ B.same i l in
        record {
          some = omega (arith, U.some);
          most = omega (arith, U.most);
          short = omega (arith, B.short, length-append key (0 ∷ []));
          clean = λ a x y z.
              let i : e + (a - e) ≡ a = omega arith in
              positive_at key chars (a - e) (omega arith) (sym (key_byte (a - e) (omega arith)) ∙ rw i z);
          same = λ i l h. key_byte i h ∙ W i l;
          end = λ l. sym (W k l) ∙ get_or-eq_default key 0 (omega arith);
        }

    plain_is : PlainHere f e k path → PlainUnder path (take k (drop e f))
    plain_is K =
        let key = take k (drop e f) in
        let m = key_long in
        let some = K.some in
        let most = K.most in
        let W : (i : ℕ) → i < length path → get_or key i 0 ≡ get_or path i 0
        = λ i l. ⊎_elim (λ h. sym (key_byte i h) ∙ K.same i l h)
        (λ h. get_or-eq_default key 0 (omega arith) ∙ (let short = K.short in let j : i ≡ k = omega arith in rw j (sym (K.end (omega arith))))) (lt_or_le i k) in
        let B : BeginsAt (ended key) path
        = record {
          short = omega (arith, K.short, length-append key (0 ∷ []));
          same = λ i l. walked_at key i ∙ W i l;
        } in
        record {
          some = omega arith;
          most = omega arith;
          clean = free_zero key (at_positive key (λ i l z. K.clean (e + i) (omega arith) (omega arith) (key_byte i (omega arith) ∙ z)));
          begins = at_begins (ended key) path B;
        }

    -- where the rest has passed, the test of the key's bytes decides
    pub plain_by : (n : ℕ) → 1 ≤ k → k ≤ 112 → ((i : ℕ) → i < length path → i < k → i < n) → Ends path k (length path) → Alike f e path 0 n → {r : Bool} → Decides (Clean f e (e + k)) r → Decides (PlainUnder path (take k (drop e f))) r
    plain_by n a z h E F D = handed D (λ C. plain_is (plain_here n a z h E F C)) (λ U. (plain_of U).clean)

-- ---- the stamp, by the edition

-- every number of eight bytes is one in edition 2
pub stamp_second : (f : List ℕ) (o : ℕ) → Bytes f → le 8 f o < edition2.stamps
stamp_second f o B = le_lt 8 f o B

-- ---- the Leaf

-- its fields read, and the size of its extent
pub record LeafRead (f : List ℕ) (o e k v size : ℕ) : Type 0 where
  pub extent : e ≡ le 4 f (o + leaf_extent)
  pub key_length : k ≡ le 2 f (o + leaf_key)
  pub value_length : v ≡ le 2 f (o + leaf_value)
  pub rounded : size ≡ up8 (k + v)

pub leaf_read : {f : List ℕ} {o e k v size : ℕ} → e ≡ le 4 f (o + leaf_extent) → k ≡ le 2 f (o + leaf_key) → v ≡ le 2 f (o + leaf_value) → size ≡ up8 (k + v) → LeafRead f o e k v size
leaf_read e k v s = record { extent = e; key_length = k; value_length = v; rounded = s }

pub leaf_denied : {E : Edition} {f path : List ℕ} {o d b : ℕ} → ((e n : ℕ) → LeafHere E f path o d b e n → ⊥) → LeafTold E f path o d b None
leaf_denied n = record { holds = λ x e. clash (cc); fails = λ e. n }

-- the key lies within the extent
pub leaf_room : {f : List ℕ} {o d b e k v size : ℕ} → LeafRead f o e k v size → b ≤ length f → ExtentFits e size d b → e + k ≤ length f
leaf_room R room X = let r = R.rounded in let h = X.high in omega arith

module _ {E : Edition} {f path : List ℕ} {o d b e k v size : ℕ} (R : LeafRead f o e k v size) where
  pub leaf_key_lem : (x n : ℕ) → LeafHere E f path o d b x n → Under E path (take k (drop e f))
  leaf_key_lem x n L =
      let at = L.is.at in
      let key = L.key in
      let q : x ≡ e = cc in
      let m : length key ≡ k = cc in
      let t : take (length key) (drop x f) ≡ key = text_part f x key (omega (arith, at.room)) (text_left f x key (text_of L.value) at.text) in
      let is : take k (drop e f) ≡ key = rw (m, q) at t in
      record { legal = rw is L.is.legal; begins = rw is L.is.begins }

  pub leaf_end : b ≤ length f → ExtentFits e size d b → le 8 f (o + leaf_stamp) < E.stamps → Under E path (take k (drop e f)) → LeafTold E f path o d b (Some (record { place = e; size = size }))
  leaf_end room X Z U =
      let key = bytes_from f e k in
      let value : Value = record { bytes = bytes_from f (e + k) v; stamp = le 8 f (o + leaf_stamp) } in
      let m = bytes_long f e k in
      let w = bytes_long f (e + k) v in
      let is : take k (drop e f) ≡ key
      = ap (λ (x : ℕ). take x (drop e f)) (sym m) ∙ text_part f e key (omega (arith, leaf_room R room X)) (here.bytes_text f e k) in
      let at : LeafAt f o e key value
      = record {
        room = let r = R.rounded in let h = X.high in omega arith;
        extent = cc;
        key_length = cc;
        value_length = cc;
        stamp = refl;
        text = rw (← bytes_append f e k v) (here.bytes_text f e (k + v));
      } in
      let l : LeafHere E f path o d b e size
      = record {
        key = key;
        value = value;
        is = record { at = at; eights = X.eights; legal = rw is at U.legal; begins = rw is at U.begins; stamped = Z };
        long = R.rounded ∙ rw (m, w) refl;
        low = X.low;
        high = X.high;
      } in
      record { holds = λ x q. let z : x ≡ record { place = e; size = size } = cc in rw z l; fails = λ q. clash (cc) }
