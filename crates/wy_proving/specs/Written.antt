-- What is written for a scope of an accepted program: which pairs its rules and steps ask, and types, pairs, types of `val`s and steps by
-- the numbers of their types (docs/LANGUAGE.md, "Certificates").
use Rattle.std.specs.Prelude.{◌≡◌, ℕ, suc, List, [], ◌∷◌, ◌++◌, map, Option, Some, None, Bool as Truth, true, false, slice_get, if◌then◌else◌}
use Rattle.wy_types.specs.declared.types.TypeRef.{TypeRef}
use Rattle.wy_types.specs.declared.types.TypeRef.TheVariants as to
use Rattle.wy_types.specs.Program.{Program, Scope}
use Rattle.wy_types.specs.Types.{is_plain, substituted, annotated, erased}
use Rattle.wy_types.specs.Ground.{names_of, arguments_sets}
use Rattle.wy_rules.specs.Readings.{annotated_reading, plain_reading}
use Rattle.wy_rules.specs.Acceptance.{Handed, argument_type, handed_to, parameters_of}
use Rattle.wy_rules.specs.Canonical.{same_type, canonical_scope}
use Rattle.wy_cert.specs.declared.certificate.CertType.{CertType}
use Rattle.wy_cert.specs.declared.certificate.CertType.TheVariants.{Int, Bool, Text, Unit as Nothing, Named, At, Own}
use Rattle.wy_cert.specs.declared.certificate.CertPair.{CertPair}
use Rattle.wy_cert.specs.declared.certificate.CertNode.{CertNode}
use Rattle.wy_cert.specs.declared.certificate.CertScope.{CertScope}
use Rattle.wy_proving.specs.Certified.{typed, Pair, pair_of}
use Rattle.wy_proving.specs.Steps.{Step, scope_steps}
use Rattle.wy_proving.specs.Proving.{TypeStands, LineRule, purity, ascription, use_of, instance_of, import_of, bound_of, scope_rules}

------------------------------------------------------------
-- Pairs that are asked: by the rules for the module and its lines

-- the pairs of each rule, one after the other
abbrev pub asked_by_all : (LineRule → List Pair) → List LineRule → List Pair
asked_by_all f [] = []
asked_by_all f (r ∷ rs) = f r ++ asked_by_all f rs

abbrev pub unless_plain : Truth → List Pair → List Pair
unless_plain true ps = []
unless_plain false ps = ps

abbrev pub where_plain : Truth → List Pair → List Pair
where_plain true ps = ps
where_plain false ps = []

module _ (p : Program) (k : ℕ) (s : Scope) where
  abbrev pub all_handed : ℕ → List ℕ → List Handed
  all_handed m arguments = handed_to (parameters_of p m) arguments

  abbrev pub seal : ℕ → List Pair
  seal d = (to.Own 0, to.Named d s.definitions) ∷ []

  abbrev pub sets_for : ℕ → List ℕ → List (List ℕ)
  sets_for m arguments = arguments_sets p s.names (names_of (slice_get p.scopes m)) arguments

  abbrev pub argument_pair : List (List ℕ) → Handed → Pair
  argument_pair es h = (argument_type p k s.names h, substituted es h.parameter.typ)

  abbrev pub bound_pair : List ℕ → Handed → Pair
  bound_pair bound h = (argument_type p k s.names h, annotated bound (erased (argument_type p k s.names h)))

  abbrev pub plain_pair : Handed → Pair
  plain_pair h = (argument_type p k s.names h, h.parameter.typ)

  -- the annotated pairs that a rule asks
  abbrev pub asked_by : LineRule → List Pair
  asked_by purity = []
  asked_by (ascription d) = unless_plain (is_plain s.kind) (seal d)
  asked_by (use_of m) = []
  asked_by (instance_of m arguments) = map (argument_pair (sets_for m arguments)) (all_handed m arguments)
  asked_by (import_of m arguments) = []
  asked_by (bound_of m arguments bound) = map (bound_pair bound) (all_handed m arguments)

  -- .. and the plain ones
  abbrev pub asked_plainly : LineRule → List Pair
  asked_plainly purity = []
  asked_plainly (ascription d) = where_plain (is_plain s.kind) (seal d)
  asked_plainly (use_of m) = []
  asked_plainly (instance_of m arguments) = []
  asked_plainly (import_of m arguments) = []
  asked_plainly (bound_of m arguments bound) = map plain_pair (all_handed m arguments)

------------------------------------------------------------
-- .. and by steps

abbrev pub type_of : Option TypeRef → List TypeRef
type_of None = []
type_of (Some t) = t ∷ []

-- the types that steps give
abbrev pub step_types : List (Step TypeRef) → List TypeRef
step_types [] = []
step_types (st ∷ sts) = type_of st.typ ++ step_types sts

-- the pairs of their T-Subs
abbrev pub sub_pairs : List (Step TypeRef) → List Pair
sub_pairs [] = []
sub_pairs (st ∷ sts) = pair_of st.below st.typ ++ sub_pairs sts

-- the types of pairs
abbrev pub pair_types : List Pair → List TypeRef
pair_types [] = []
pair_types (q ∷ ps) = q.0 ∷ q.1 ∷ pair_types ps

------------------------------------------------------------
-- What is said of a scope, by numbers

abbrev pub cert_type : TypeRef → CertType
cert_type to.Int = Int
cert_type to.Bool = Bool
cert_type to.Text = Text
cert_type to.Unit = Nothing
cert_type (to.Named d es) = Named d es
cert_type (to.At d e) = At d e
cert_type (to.Own l) = Own l

-- the types of a list, as they are listed
abbrev pub listed_types : List TypeRef → List TypeRef
listed_types ts = map typed (map cert_type ts)

-- the number of a type: where it stands first
abbrev pub number_of : List TypeRef → TypeRef → ℕ
number_of [] t = 0
number_of (u ∷ us) t = if same_type u t then 0 else suc (number_of us t)

-- .. among listed types
module _ (ts : List TypeRef) where
  abbrev pub number : TypeRef → ℕ
  number t = number_of (listed_types ts) t

  -- a pair, by the numbers of its types
  abbrev pub cert_pair : Pair → CertPair
  cert_pair q = record { left = number q.0; right = number q.1 }

  abbrev pub type_number : Option TypeRef → ℕ
  type_number None = 0
  type_number (Some t) = number t

  -- the node of a step
  abbrev pub cert_node : Step TypeRef → CertNode
  cert_node st = record {
    rule = st.rule;
    file = st.place.file;
    line = st.place.line;
    column = st.place.column;
    parts = st.parts;
    typ = type_number st.typ;
    effect = st.effect;
  }

-- what is said of a scope: these types, pairs, pairs for plain comparison, types of `val`s and steps
abbrev pub written_out : List TypeRef → List Pair → List Pair → List TypeRef → List (Step TypeRef) → CertScope
written_out ts ps bs us sts = record {
  types = map cert_type ts;
  pairs = map (cert_pair ts) ps;
  plain = map (cert_pair ts) bs;
  locals = map (number ts) us;
  nodes = map (cert_node ts) sts;
}

------------------------------------------------------------
-- What is written for a scope of a program

module _ (p : Program) (k : ℕ) (s : Scope) where
  -- the steps of its canonical derivation over these types of its `val`s, by its kind
  abbrev pub steps_in : Truth → List TypeRef → List (Step TypeRef)
  steps_in true us = scope_steps (plain_reading p k) s (canonical_scope (plain_reading p k) same_type s us)
  steps_in false us = scope_steps (annotated_reading p k) s (canonical_scope (annotated_reading p k) same_type s us)

  abbrev pub written_steps : List TypeRef → List (Step TypeRef)
  written_steps us = steps_in (is_plain s.kind) us

  -- the annotated pairs that are asked, by rules, and by T-Subs outside of plain modules
  abbrev pub asks : List TypeRef → List Pair
  asks us = unless_plain (is_plain s.kind) (sub_pairs (written_steps us)) ++ asked_by_all (asked_by p k s) (scope_rules s)

  -- .. and the plain ones
  abbrev pub plain_asks : List TypeRef → List Pair
  plain_asks us = where_plain (is_plain s.kind) (sub_pairs (written_steps us)) ++ asked_by_all (asked_plainly p k s) (scope_rules s)

  -- an erased type that can stand at the empty set
  abbrev pub BareStands : TypeRef → Type 0
  BareStands t = (erased t ≡ t) × TypeStands p s (annotated [] t)
