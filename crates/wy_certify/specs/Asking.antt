-- The pairs that the T-Subs and the rules for a scope ask, in either mode (docs/LANGUAGE.md, "Modules and lines").
use Rattle.std.specs.Prelude.{ℕ, List, ◌++◌, slice_get}
use Rattle.wy_types.specs.Program.{Program, Scope}
use Rattle.wy_types.specs.declared.types.TypeRef.{TypeRef}
use Rattle.wy_types.specs.Types.{is_plain, substituted, annotated, erased}
use Rattle.wy_types.specs.Ground.{type_of}
use Rattle.wy_rules.specs.Acceptance.{Handed}
use Rattle.wy_subtype.specs.declared.verdict.Mode.{Mode}
use Rattle.wy_subtype.specs.declared.verdict.Mode.TheVariants.{Annotated as WithEffects, Plain}
use Rattle.wy_proving.specs.Certified.{Pair}
use Rattle.wy_proving.specs.Steps.{Step}
use Rattle.wy_proving.specs.Proving.{LineRule, scope_rules}
use Rattle.wy_proving.specs.Written.{asked_by, asked_plainly, asked_by_all, unless_plain, where_plain, sub_pairs}
use Rattle.wy_certify.specs.declared.asking.Asked.{Asked}
use Rattle.wy_certify.specs.declared.asking.Asked.TheVariants.{Substituted, Annotated, Declared}

-- the type that an argument of a type is to be below, by the type of the parameter
abbrev pub expected_by : Asked → TypeRef → TypeRef → TypeRef
expected_by (Substituted sets) u t = substituted sets.now u
expected_by (Annotated bound) u t = annotated bound.now (erased t)
expected_by Declared u t = u

-- the pair that is asked of an argument
abbrev pub argument_asks : Scope → Asked → Handed → Pair
argument_asks s a h = (type_of (slice_get s.names h.argument), expected_by a h.parameter.typ (type_of (slice_get s.names h.argument)))

-- the pairs that a rule asks
abbrev pub asked_in : Mode → Program → ℕ → Scope → LineRule → List Pair
asked_in WithEffects p k s r = asked_by p k s r
asked_in Plain p k s r = asked_plainly p k s r

-- the pairs of the T-Subs among steps, where the scope is judged by this subtyping
abbrev pub subs_in : Mode → Scope → List (Step TypeRef) → List Pair
subs_in WithEffects s sts = unless_plain (is_plain s.kind) (sub_pairs sts)
subs_in Plain s sts = where_plain (is_plain s.kind) (sub_pairs sts)

-- all pairs that are asked
abbrev pub asks_in : Mode → Program → ℕ → Scope → List (Step TypeRef) → List Pair
asks_in mode p k s sts = subs_in mode s sts ++ asked_by_all (asked_in mode p k s) (scope_rules s)
