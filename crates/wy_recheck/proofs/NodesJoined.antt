-- Parts that are read one after the other: what comes behind a part that stands, several values, and the statements of a block.
use Rattle.std.proofs.Common.{◌≡◌, ℕ, List, [], ◌∷◌, ◌++◌, length, drop, refl, sym, ap, ◌∙◌, subst, append_assoc, arith}
use Rattle.std.specs.Prelude.{Result}
use Rattle.wy_effects.specs.EffSet.{IsSet, union}
use Rattle.wy_effects.proofs.Numbers.{union-turn, union-none}
use Rattle.wy_effects.proofs.SetLaws.{IsSetFrom-union}
use Rattle.wy_types.specs.declared.types.TypeRef.{TypeRef}
use Rattle.wy_types.specs.declared.code.Value as v
use Rattle.wy_types.specs.View.{values_of}
use Rattle.wy_types.specs.Vals.{value_count}
use Rattle.wy_cert.specs.declared.certificate.CertNode.{CertNode}
use Rattle.wy_proving.specs.Reading.{Part, part_stands, part_fails, part_then, Parts, parts_stand, parts_fail, parts_then, with_part}
use Rattle.wy_recheck.specs.declared.failure.Failure.{Failure}
use Rattle.wy_recheck.specs.declared.reader.Read.{Read}
use Rattle.wy_recheck.specs.declared.reader.Several.{Several}
use Rattle.wy_recheck.specs.Standing.{FailsFirst}
use Rattle.wy_recheck.specs.Nodes.{IsRead}
use Rattle.wy_recheck.proofs.NodesFailing.{first_weaker}

------------------------------------------------------------
-- A part, and what comes behind it

-- the same part, said in other words
pub read_as : (nodes : List CertNode) (at : ℕ) (result : Result Read Failure) (part same : Part TypeRef) → same ≡ part → IsRead nodes part at result → IsRead nodes same at result
read_as nodes at result part same e h = subst (λ (p : Part TypeRef). IsRead nodes p at result) (sym e) h

pub fails_as : (part same : Part TypeRef) → same ≡ part → (e : Failure) → FailsFirst (λ i. part ≡ part_fails i) e → FailsFirst (λ i. same ≡ part_fails i) e
fails_as part same d e h = first_weaker (λ i. part ≡ part_fails i) (λ i. same ≡ part_fails i) (λ i g. d ∙ g) e h

module _ (nodes : List CertNode) (whole part : Part TypeRef) (f : TypeRef → List ℕ → ℕ → List CertNode → Part TypeRef) (form : whole ≡ part_then part f) where
  -- what it comes to where the part stands
  pub behind : (x : Read) (at : ℕ) → part ≡ part_stands x.typ x.effect at (drop at nodes) → whole ≡ f x.typ x.effect at (drop at nodes)
  behind x at h = form ∙ ap (λ (p : Part TypeRef). part_then p f) h

  pub behind_read : (x : Read) (at new : ℕ) (result : Result Read Failure) → part ≡ part_stands x.typ x.effect at (drop at nodes) → IsRead nodes (f x.typ x.effect at (drop at nodes)) new result → IsRead nodes whole new result
  behind_read x at new result h g = read_as nodes new result (f x.typ x.effect at (drop at nodes)) whole (behind x at h) g

  -- a node of it fails
  pub part_fails_first : (e : Failure) → FailsFirst (λ i. part ≡ part_fails i) e → FailsFirst (λ i. whole ≡ part_fails i) e
  part_fails_first e h = first_weaker (λ i. part ≡ part_fails i) (λ i. whole ≡ part_fails i) (λ i g. form ∙ ap (λ (p : Part TypeRef). part_then p f) g) e h

  -- .. behind it
  pub later_fails : (x : Read) (at : ℕ) → part ≡ part_stands x.typ x.effect at (drop at nodes) → (e : Failure) → FailsFirst (λ i. f x.typ x.effect at (drop at nodes) ≡ part_fails i) e → FailsFirst (λ i. whole ≡ part_fails i) e
  later_fails x at h e g = fails_as (f x.typ x.effect at (drop at nodes)) whole (behind x at h) e g

-- .. where it is all that comes
module _ (nodes : List CertNode) (part : Part TypeRef) (f : TypeRef → List ℕ → ℕ → List CertNode → Part TypeRef) where
  pub then_read : (x : Read) (at new : ℕ) (result : Result Read Failure) → part ≡ part_stands x.typ x.effect at (drop at nodes) → IsRead nodes (f x.typ x.effect at (drop at nodes)) new result → IsRead nodes (part_then part f) new result
  then_read x at new result h g = behind_read nodes (part_then part f) part f refl x at new result h g

  pub then_fails : (e : Failure) → FailsFirst (λ i. part ≡ part_fails i) e → FailsFirst (λ i. part_then part f ≡ part_fails i) e
  then_fails e h = part_fails_first nodes (part_then part f) part f refl e h

-- behind several
module _ (nodes : List CertNode) (whole : Part TypeRef) (parts : Parts TypeRef) (f : List TypeRef → List ℕ → ℕ → List CertNode → Part TypeRef) (form : whole ≡ parts_then parts f) where
  pub behind_parts : (xs : Several) (at new : ℕ) (result : Result Read Failure) → parts ≡ parts_stand xs.types xs.effect at (drop at nodes) → IsRead nodes (f xs.types xs.effect at (drop at nodes)) new result → IsRead nodes whole new result
  behind_parts xs at new result h g = read_as nodes new result (f xs.types xs.effect at (drop at nodes)) whole (form ∙ ap (λ (p : Parts TypeRef). parts_then p f) h) g

  pub parts_fail_first : (e : Failure) → FailsFirst (λ i. parts ≡ parts_fail i) e → FailsFirst (λ i. whole ≡ part_fails i) e
  parts_fail_first e h = first_weaker (λ i. parts ≡ parts_fail i) (λ i. whole ≡ part_fails i) (λ i g. form ∙ ap (λ (p : Parts TypeRef). parts_then p f) g) e h

------------------------------------------------------------
-- Values

pub values_counted : (xs : List v.Value) → value_count (values_of xs) ≡ length xs
values_counted [] = refl
values_counted (x ∷ xs) = (let rest : value_count (values_of xs) ≡ length xs = values_counted xs in omega arith)

turned : (xs ys : List ℕ) → IsSet 512 xs → IsSet 512 ys → union xs ys ≡ union ys xs
turned xs ys s t =
    sym (union-none 0 512 (union xs ys) (IsSetFrom-union 0 512 xs ys s t)) ∙ union-turn xs ys [] ∙ ap (union ys) (union-none 0 512 xs s)

grouped : (xs ys zs : List ℕ) → IsSet 512 xs → IsSet 512 ys → union xs (union ys zs) ≡ union (union xs ys) zs
grouped xs ys zs s t = sym (union-turn ys xs zs) ∙ ap (λ l. union l zs) (turned ys xs t s)

-- values that stand before others
abbrev pub before : List TypeRef → List ℕ → Parts TypeRef → Parts TypeRef
before ts e (parts_stand us f at ns) = parts_stand (ts ++ us) (union e f) at ns
before ts e (parts_fail at) = parts_fail at

pub before_none : (parts : Parts TypeRef) → parts ≡ before [] [] parts
before_none (parts_stand us f at ns) = refl
before_none (parts_fail at) = refl

pub before_more : (ts : List TypeRef) (e : List ℕ) (t : TypeRef) (f : List ℕ) → IsSet 512 e → IsSet 512 f → (parts : Parts TypeRef) → before ts e (with_part t f parts) ≡ before (ts ++ t ∷ []) (union e f) parts
before_more ts e t f s u (parts_stand us g at ns) =
    ap (λ l. parts_stand l (union e (union f g)) at ns) (sym (append_assoc ts (t ∷ []) us)) ∙ ap (λ h. parts_stand ((ts ++ t ∷ []) ++ us) h at ns) (grouped e f g s u)
before_more ts e t f s u (parts_fail at) = refl
