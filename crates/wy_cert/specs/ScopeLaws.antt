-- What is said of a scope: five lists.
use Rattle.std.proofs.Common.{◌≡◌, ℕ, ◌≤◌, List, ◌++◌, length, refl, append_assoc, arith}
use Rattle.wy_spelling.specs.ListLaws.{lists_apart, some_list}
use Rattle.wy_spelling.specs.NumberLaws.{numbers_apart}
use Rattle.wy_spelling.specs.PairLaws.{pairs_apart as both_apart}
use Rattle.wy_spelling.specs.ShapeLaws.{IsShape, apart_in_shape}
use Rattle.wy_spelling.specs.Spelling.{AreApart, AreBoth, AreSpelled, IsNumber, both_bytes, list_bytes, number_bytes}
use Rattle.wy_cert.specs.NodeLaws.{nodes_apart}
use Rattle.wy_cert.specs.PairLaws.{pairs_apart}
use Rattle.wy_cert.specs.Spelled.{IsNodeSpelled, IsPairSpelled, IsScopeSpelled, IsTypeSpelled, node_bytes, pair_bytes, scope_bytes, type_bytes}
use Rattle.wy_cert.specs.TypeLaws.{types_apart}
use Rattle.wy_cert.specs.declared.certificate.CertNode.{CertNode}
use Rattle.wy_cert.specs.declared.certificate.CertPair.{CertPair}
use Rattle.wy_cert.specs.declared.certificate.CertScope.{CertScope}
use Rattle.wy_cert.specs.declared.certificate.CertType.{CertType}

-- the lists of a scope, in the order of their bytes
abbrev pub ScopeParts : Type 0
ScopeParts = List CertType × (List CertPair × (List CertPair × (List ℕ × List CertNode)))

abbrev pub AreFromLocals : List ℕ × List CertNode → Type 0
AreFromLocals = AreBoth (AreSpelled IsNumber) (AreSpelled IsNodeSpelled)

abbrev pub AreFromPlain : List CertPair × (List ℕ × List CertNode) → Type 0
AreFromPlain = AreBoth (AreSpelled IsPairSpelled) AreFromLocals

abbrev pub AreFromPairs : List CertPair × (List CertPair × (List ℕ × List CertNode)) → Type 0
AreFromPairs = AreBoth (AreSpelled IsPairSpelled) AreFromPlain

abbrev pub AreScopeParts : ScopeParts → Type 0
AreScopeParts = AreBoth (AreSpelled IsTypeSpelled) AreFromPairs

abbrev pub from_locals_bytes : List ℕ × List CertNode → List ℕ
from_locals_bytes = both_bytes (list_bytes number_bytes) (list_bytes node_bytes)

abbrev pub from_plain_bytes : List CertPair × (List ℕ × List CertNode) → List ℕ
from_plain_bytes = both_bytes (list_bytes pair_bytes) from_locals_bytes

abbrev pub from_pairs_bytes : List CertPair × (List CertPair × (List ℕ × List CertNode)) → List ℕ
from_pairs_bytes = both_bytes (list_bytes pair_bytes) from_plain_bytes

abbrev pub scope_parts_bytes : ScopeParts → List ℕ
scope_parts_bytes = both_bytes (list_bytes type_bytes) from_pairs_bytes

abbrev pub scope_of : ScopeParts → CertScope
scope_of p = record { types = p.0; pairs = p.1.0; plain = p.1.1.0; locals = p.1.1.1.0; nodes = p.1.1.1.1 }

abbrev pub scope_parts : CertScope → ScopeParts
scope_parts s = (s.types, (s.pairs, (s.plain, (s.locals, s.nodes))))

regrouped : (a b c d e : List ℕ) → (((a ++ b) ++ c) ++ d) ++ e ≡ a ++ (b ++ (c ++ (d ++ e)))
regrouped a b c d e = simp append_assoc

scope_regrouped : (s : CertScope) → scope_bytes s ≡ scope_parts_bytes (scope_parts s)
scope_regrouped s = regrouped (list_bytes type_bytes s.types) (list_bytes pair_bytes s.pairs) (list_bytes pair_bytes s.plain) (list_bytes number_bytes s.locals) (list_bytes node_bytes s.nodes)

pub scope_shape : IsShape AreScopeParts scope_parts_bytes IsScopeSpelled scope_bytes scope_of scope_parts
scope_shape = record {
  back = λ s. refl;
  whole_spelled = λ p is. record { types = is.0; pairs = is.1.0; plain = is.1.1.0; locals = is.1.1.1.0; nodes = is.1.1.1.1 };
  whole_bytes = λ p. scope_regrouped (scope_of p);
  parts_spelled = λ s is. (is.types, (is.pairs, (is.plain, (is.locals, is.nodes))));
  parts_bytes = scope_regrouped;
}

pub scope_parts_apart : AreApart AreScopeParts scope_parts_bytes
scope_parts_apart =
    let two = lists_apart IsPairSpelled pair_bytes pairs_apart in
    let numbers = lists_apart IsNumber number_bytes numbers_apart in
    let nodes = lists_apart IsNodeSpelled node_bytes nodes_apart in
    let locals = both_apart (AreSpelled IsNumber) (list_bytes number_bytes) (AreSpelled IsNodeSpelled) (list_bytes node_bytes) numbers nodes in
    let plain = both_apart (AreSpelled IsPairSpelled) (list_bytes pair_bytes) AreFromLocals from_locals_bytes two locals in
    let pairs = both_apart (AreSpelled IsPairSpelled) (list_bytes pair_bytes) AreFromPlain from_plain_bytes two plain in
    both_apart (AreSpelled IsTypeSpelled) (list_bytes type_bytes) AreFromPairs from_pairs_bytes (lists_apart IsTypeSpelled type_bytes types_apart) pairs

pub scopes_apart : AreApart IsScopeSpelled scope_bytes
scopes_apart = apart_in_shape AreScopeParts scope_parts_bytes IsScopeSpelled scope_bytes scope_of scope_parts scope_shape scope_parts_apart

pub scopes_filled : (s : CertScope) → 1 ≤ length (scope_bytes s)
scopes_filled s = omega arith

pub some_scope : (s : CertScope) × IsScopeSpelled s
some_scope =
    let types = some_list IsTypeSpelled in
    let pairs = some_list IsPairSpelled in
    let locals = some_list IsNumber in
    let nodes = some_list IsNodeSpelled in (
      record { types = types.0; pairs = pairs.0; plain = pairs.0; locals = locals.0; nodes = nodes.0 },
      record { types = types.1; pairs = pairs.1; plain = pairs.1; locals = locals.1; nodes = nodes.1 },
    )
