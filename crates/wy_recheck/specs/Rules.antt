-- The rules of a scope as code has them, and what is decided of them by listed pairs (docs/LANGUAGE.md, "Certificates").
use Rattle.std.specs.Prelude.{◌≡◌, ◌↔◌, ℕ, List, Bool as Truth, true, slice_get}
use Rattle.wy_text.specs.Members.{In}
use Rattle.wy_types.specs.declared.types.TypeRef.{TypeRef}
use Rattle.wy_types.specs.Program.{Program, Scope}
use Rattle.wy_types.specs.Types.{substituted, annotated, erased}
use Rattle.wy_types.specs.Ground.{type_of, names_of, arguments_sets}
use Rattle.wy_rules.specs.Acceptance.{Handed}
use Rattle.wy_cert.specs.declared.certificate.CertScope.{CertScope}
use Rattle.wy_proving.specs.Certified.{Pair, annotated_pairs, plain_pairs}
use Rattle.wy_proving.specs.Proving as of
use Rattle.wy_recheck.specs.PairSet.{StandsFor}
use Rattle.wy_recheck.specs.declared.lines.LineRule.{LineRule}
use Rattle.wy_recheck.specs.declared.lines.LineRule.TheVariants.{Purity, Ascription, UseOf, InstanceOf, ImportOf, BoundOf}
use Rattle.wy_recheck.specs.declared.lines.Asked.{Asked}
use Rattle.wy_recheck.specs.declared.lines.Asked.TheVariants.{Substituted, Annotated, Erased}
use Rattle.wy_recheck.specs.declared.lines.Rules.{Rules}

-- the rule that is meant
abbrev pub rule_of : LineRule → of.LineRule
rule_of Purity = of.purity
rule_of (Ascription d) = of.ascription d
rule_of (UseOf m) = of.use_of m
rule_of (InstanceOf m arguments) = of.instance_of m arguments.now
rule_of (ImportOf m arguments) = of.import_of m arguments.now
rule_of (BoundOf m arguments bound) = of.bound_of m arguments.now bound.now

-- rules are tested by the pairs that are listed
pub record IsListedBy (r : Rules) (c : CertScope) : Type 0 where
  pub annotated : StandsFor r.annotated.now (annotated_pairs c)
  pub plain : StandsFor r.plain.now (plain_pairs c)

-- an answer says whether something holds of what is listed
abbrev pub Decides : Rules → (CertScope → Type 0) → Truth → Type 0
Decides r P b = (c : CertScope) → IsListedBy r c → (b ≡ true) ↔ P c

-- the pair that is asked of an argument of a type is listed, by the type of the parameter
abbrev pub AskedOfType : CertScope → Asked → TypeRef → TypeRef → Type 0
AskedOfType c (Substituted sets) u t = In {X = Pair} (t, substituted sets.now u) (annotated_pairs c)
AskedOfType c (Annotated bound) u t = In {X = Pair} (t, annotated bound.now (erased t)) (annotated_pairs c)
AskedOfType c Erased u t = In {X = Pair} (erased t, erased u) (plain_pairs c)

-- the pair that is asked of an argument is listed
abbrev pub AskedOf : Scope → CertScope → Asked → Handed → Type 0
AskedOf s c a h = AskedOfType c a h.parameter.typ (type_of (slice_get s.names h.argument))

-- .. by M-Inst, with the sets that the arguments of a module put in
abbrev pub ArgumentOf : Program → Scope → CertScope → ℕ → List ℕ → Handed → Type 0
ArgumentOf p s c m arguments h = In {X = Pair} (type_of (slice_get s.names h.argument), substituted (arguments_sets p s.names (names_of (slice_get p.scopes m)) arguments) h.parameter.typ) (annotated_pairs c)
