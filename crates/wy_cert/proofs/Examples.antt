-- The smallest certificate, and bytes that are none.
use Rattle.std.proofs.Common.{codes, ◌≡◌, ℕ, List, [], ◌∷◌, ◌++◌, refl, inl, inr, subst, lit<}
use Rattle.wy_text.specs.Members.{In}
use Rattle.wy_spelling.specs.ListLaws.{lists_apart}
use Rattle.wy_spelling.specs.Spelling.{AreSpelled, IsBadAt, IsNumber, IsStuck, list_bytes}
use Rattle.wy_spelling.specs.declared.spelled.ReadError.TheVariants.{Bad}
use Rattle.wy_spelling.proofs.Fronts.{refused_behind}
use Rattle.wy_spelling.proofs.Lists.{item_goes}
use Rattle.wy_spelling.proofs.Pairs.{first_goes}
use Rattle.wy_spelling.proofs.Shapes.{refused_in_shape}
use Rattle.wy_spelling.proofs.Wholes.{bad_where_more, bad_where_stuck, value_goes}
use Rattle.wy_cert.specs.ScopeLaws.{AreFromPairs, AreScopeParts, from_pairs_bytes, scope_of, scope_parts, scope_parts_apart, scope_parts_bytes, scope_shape, scopes_apart}
use Rattle.wy_cert.specs.Spelled.{IsCertificateSpelled, IsNodeSpelled, IsPairSpelled, IsScopeSpelled, IsTypeSpelled, certificate_bytes, scope_bytes, type_bytes}
use Rattle.wy_cert.specs.TypeLaws.{types_apart}
use Rattle.wy_cert.specs.declared.certificate.CertNode.{CertNode}
use Rattle.wy_cert.specs.declared.certificate.CertScope.{CertScope}
use Rattle.wy_cert.specs.declared.certificate.CertType.TheVariants as typ
use Rattle.wy_cert.specs.declared.certificate.Rule.TheVariants as rule
use Rattle.wy_cert.proofs.Certificates.{certificates_apart}
use Rattle.wy_cert.proofs.TypeFronts.{no_form}

-- a body that is a literal, of the type Unit
abbrev literal : CertNode
literal = record { rule = rule.Lit; file = 0; line = 3; column = 3; parts = 0; typ = 0; effect = [] }

abbrev body : CertNode
body = record { rule = rule.Body; file = 0; line = 2; column = 3; parts = 1; typ = 0; effect = [] }

abbrev scope : CertScope
scope = record { types = typ.Unit ∷ []; pairs = []; plain = []; locals = []; nodes = literal ∷ body ∷ [] }

-- the letters, one scope, one type
abbrev before_type : List ℕ
before_type = 87 ∷ 89 ∷ 67 ∷ 69 ∷ 82 ∷ 84 ∷ 48 ∷ 49 ∷ 1 ∷ 0 ∷ 0 ∷ 0 ∷ 1 ∷ 0 ∷ 0 ∷ 0 ∷ []

-- no pairs, no plain pairs, no locals, two nodes
abbrev lists : List ℕ
lists = 0 ∷ 0 ∷ 0 ∷ 0 ∷ 0 ∷ 0 ∷ 0 ∷ 0 ∷ 0 ∷ 0 ∷ 0 ∷ 0 ∷ 2 ∷ 0 ∷ 0 ∷ 0 ∷ []

abbrev literal_bytes : List ℕ
literal_bytes = 0 ∷ 0 ∷ 0 ∷ 0 ∷ 0 ∷ 3 ∷ 0 ∷ 0 ∷ 0 ∷ 3 ∷ 0 ∷ 0 ∷ 0 ∷ 0 ∷ 0 ∷ 0 ∷ 0 ∷ 0 ∷ 0 ∷ 0 ∷ 0 ∷ 0 ∷ 0 ∷ 0 ∷ 0 ∷ []

abbrev body_bytes : List ℕ
body_bytes = 11 ∷ 0 ∷ 0 ∷ 0 ∷ 0 ∷ 2 ∷ 0 ∷ 0 ∷ 0 ∷ 3 ∷ 0 ∷ 0 ∷ 0 ∷ 1 ∷ 0 ∷ 0 ∷ 0 ∷ 0 ∷ 0 ∷ 0 ∷ 0 ∷ 0 ∷ 0 ∷ 0 ∷ 0 ∷ []

-- all of them, behind the form of the type
abbrev behind_form : List ℕ
behind_form = lists ++ literal_bytes ++ body_bytes

smallest_bytes : certificate_bytes (scope ∷ []) ≡ before_type ++ 3 ∷ behind_form
smallest_bytes = refl

-- ---- it has a spelling

none_spelled : {X : Type 0} (IsSpelled : X → Type 0) → AreSpelled IsSpelled []
none_spelled IsSpelled = (lit< tt, λ x h. absurd h)

each_is : {X : Type 0} (IsSpelled : X → Type 0) (x : X) (xs : List X) → IsSpelled x → ((y : X) → In y xs → IsSpelled y) → (y : X) → In y (x ∷ xs) → IsSpelled y
each_is IsSpelled x xs is are y (inl e) = subst IsSpelled e is
each_is IsSpelled x xs is are y (inr h) = are y h

literal_spelled : IsNodeSpelled literal
literal_spelled = record { file = lit< tt; line = lit< tt; column = lit< tt; parts = lit< tt; typ = lit< tt; effect = none_spelled IsNumber }

body_spelled : IsNodeSpelled body
body_spelled = record { file = lit< tt; line = lit< tt; column = lit< tt; parts = lit< tt; typ = lit< tt; effect = none_spelled IsNumber }

scope_spelled : IsScopeSpelled scope
scope_spelled = record {
  types = (lit< tt, each_is IsTypeSpelled typ.Unit [] tt (λ x h. absurd h));
  pairs = none_spelled IsPairSpelled;
  plain = none_spelled IsPairSpelled;
  locals = none_spelled IsNumber;
  nodes = (lit< tt, each_is IsNodeSpelled literal (body ∷ []) literal_spelled (each_is IsNodeSpelled body [] body_spelled (λ x h. absurd h)));
}

smallest_spelled : IsCertificateSpelled (scope ∷ [])
smallest_spelled = (lit< tt, each_is IsScopeSpelled scope [] scope_spelled (λ x h. absurd h))

-- ---- bytes that are none

-- cut off where the type should stand: all that there is can stand
cut_off : IsBadAt IsCertificateSpelled certificate_bytes before_type 16
cut_off =
    let stuck : IsStuck IsCertificateSpelled certificate_bytes before_type 0 = record { front = before_type; rest = []; split = refl; rest_is = refl; begins = (scope ∷ [], 3, behind_form, smallest_spelled, refl); ends = λ next behind at x others is e. absurd cc } in
    bad_where_stuck IsCertificateSpelled certificate_bytes certificates_apart before_type 0 stuck

-- one byte too many
one_more : IsBadAt IsCertificateSpelled certificate_bytes (before_type ++ 3 ∷ behind_form ++ 0 ∷ []) 83
one_more = bad_where_more IsCertificateSpelled certificate_bytes certificates_apart (before_type ++ 3 ∷ behind_form ++ 0 ∷ []) (scope ∷ []) (0 ∷ []) (lit< tt) (smallest_spelled, refl)

-- a type of no form: in its list, its scope, the list of scopes and the file
no_such_form : IsBadAt IsCertificateSpelled certificate_bytes (before_type ++ 7 ∷ behind_form) 16
no_such_form =
    let left : ℕ = 67 in
    let a = no_form (7 ∷ behind_form) (lit< tt) in
    let b = refused_behind IsTypeSpelled type_bytes (AreSpelled IsTypeSpelled) (list_bytes type_bytes) (1 ∷ 0 ∷ 0 ∷ 0 ∷ []) (7 ∷ behind_form) (Bad left) types_apart (item_goes IsTypeSpelled type_bytes types_apart [] 1 (lit< tt) (lit< tt) (λ x h. absurd h)) a in
    let rest : AreFromPairs ([], ([], ([], []))) = (none_spelled IsPairSpelled, (none_spelled IsPairSpelled, (none_spelled IsNumber, none_spelled IsNodeSpelled))) in
    let c = refused_behind (AreSpelled IsTypeSpelled) (list_bytes type_bytes) AreScopeParts scope_parts_bytes [] (1 ∷ 0 ∷ 0 ∷ 0 ∷ 7 ∷ behind_form) (Bad left) (lists_apart IsTypeSpelled type_bytes types_apart) (first_goes (AreSpelled IsTypeSpelled) (list_bytes type_bytes) AreFromPairs from_pairs_bytes ([], ([], ([], []))) rest) b in
    let d = refused_in_shape AreScopeParts scope_parts_bytes IsScopeSpelled scope_bytes scope_of scope_parts scope_shape (1 ∷ 0 ∷ 0 ∷ 0 ∷ 7 ∷ behind_form) (Bad left) scope_parts_apart c in
    let e = refused_behind IsScopeSpelled scope_bytes (AreSpelled IsScopeSpelled) (list_bytes scope_bytes) (1 ∷ 0 ∷ 0 ∷ 0 ∷ []) (1 ∷ 0 ∷ 0 ∷ 0 ∷ 7 ∷ behind_form) (Bad left) scopes_apart (item_goes IsScopeSpelled scope_bytes scopes_apart [] 1 (lit< tt) (lit< tt) (λ x h. absurd h)) d in
    let f = refused_behind (AreSpelled IsScopeSpelled) (list_bytes scope_bytes) IsCertificateSpelled certificate_bytes (codes "WYCERT01") (1 ∷ 0 ∷ 0 ∷ 0 ∷ 1 ∷ 0 ∷ 0 ∷ 0 ∷ 7 ∷ behind_form) (Bad left) (lists_apart IsScopeSpelled scope_bytes scopes_apart) (value_goes (AreSpelled IsScopeSpelled) (list_bytes scope_bytes) (codes "WYCERT01")) e in
    bad_where_stuck IsCertificateSpelled certificate_bytes certificates_apart (before_type ++ 7 ∷ behind_form) left f
