-- The bytes of a certificate (docs/LANGUAGE.md, "Certificates").
use Rattle.std.specs.Prelude.{codes, ℕ, List, [], ◌∷◌, ◌++◌}
use Rattle.wy_spelling.specs.Spelling.{number_bytes, list_bytes, IsNumber, AreSpelled}
use Rattle.wy_cert.specs.declared.certificate.Rule.{Rule}
use Rattle.wy_cert.specs.declared.certificate.Rule.TheVariants.{Lit, Var, This, Call, New, If, Seq, Val, Set, Op, Asc, Body, Sub}
use Rattle.wy_cert.specs.declared.certificate.CertType.{CertType}
use Rattle.wy_cert.specs.declared.certificate.CertType.TheVariants.{Int, Bool, Text, Unit as Nothing, Named, At, Own}
use Rattle.wy_cert.specs.declared.certificate.CertPair.{CertPair}
use Rattle.wy_cert.specs.declared.certificate.CertNode.{CertNode}
use Rattle.wy_cert.specs.declared.certificate.CertScope.{CertScope}

abbrev pub set_bytes : List ℕ → List ℕ
set_bytes e = list_bytes number_bytes e

abbrev pub type_bytes : CertType → List ℕ
type_bytes Int = 0 ∷ []
type_bytes Bool = 1 ∷ []
type_bytes Text = 2 ∷ []
type_bytes Nothing = 3 ∷ []
type_bytes (Named d es) = 4 ∷ number_bytes d ++ list_bytes set_bytes es
type_bytes (At d e) = 5 ∷ number_bytes d ++ set_bytes e
type_bytes (Own l) = 6 ∷ number_bytes l

abbrev pub rule_byte : Rule → ℕ
rule_byte Lit = 0
rule_byte Var = 1
rule_byte This = 2
rule_byte Call = 3
rule_byte New = 4
rule_byte If = 5
rule_byte Seq = 6
rule_byte Val = 7
rule_byte Set = 8
rule_byte Op = 9
rule_byte Asc = 10
rule_byte Body = 11
rule_byte Sub = 12

abbrev pub node_bytes : CertNode → List ℕ
node_bytes n = rule_byte n.rule ∷ number_bytes n.file ++ number_bytes n.line ++ number_bytes n.column ++ number_bytes n.parts ++ number_bytes n.typ ++ set_bytes n.effect

abbrev pub pair_bytes : CertPair → List ℕ
pair_bytes q = number_bytes q.left ++ number_bytes q.right

abbrev pub scope_bytes : CertScope → List ℕ
scope_bytes s =
    list_bytes type_bytes s.types ++ list_bytes pair_bytes s.pairs ++ list_bytes pair_bytes s.plain ++ list_bytes number_bytes s.locals ++
    list_bytes node_bytes s.nodes

-- a certificate begins with eight letters
abbrev pub certificate_bytes : List CertScope → List ℕ
certificate_bytes c = codes "WYCERT01" ++ list_bytes scope_bytes c

------------------------------------------------------------
-- What has a spelling: each number is one that four bytes can say

abbrev pub IsSetSpelled : List ℕ → Type 0
IsSetSpelled e = AreSpelled IsNumber e

abbrev pub IsTypeSpelled : CertType → Type 0
IsTypeSpelled Int = Unit {0}
IsTypeSpelled Bool = Unit {0}
IsTypeSpelled Text = Unit {0}
IsTypeSpelled Nothing = Unit {0}
IsTypeSpelled (Named d es) = IsNumber d × AreSpelled IsSetSpelled es
IsTypeSpelled (At d e) = IsNumber d × IsSetSpelled e
IsTypeSpelled (Own l) = IsNumber l

abbrev pub IsPairSpelled : CertPair → Type 0
IsPairSpelled q = IsNumber q.left × IsNumber q.right

pub record IsNodeSpelled (n : CertNode) : Type 0 where
  pub file : IsNumber n.file
  pub line : IsNumber n.line
  pub column : IsNumber n.column
  pub parts : IsNumber n.parts
  pub typ : IsNumber n.typ
  pub effect : IsSetSpelled n.effect

pub record IsScopeSpelled (s : CertScope) : Type 0 where
  pub types : AreSpelled IsTypeSpelled s.types
  pub pairs : AreSpelled IsPairSpelled s.pairs
  pub plain : AreSpelled IsPairSpelled s.plain
  pub locals : AreSpelled IsNumber s.locals
  pub nodes : AreSpelled IsNodeSpelled s.nodes

abbrev pub IsCertificateSpelled : List CertScope → Type 0
IsCertificateSpelled c = AreSpelled IsScopeSpelled c
