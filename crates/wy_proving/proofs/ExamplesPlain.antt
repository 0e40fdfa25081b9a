-- A plain module with what a certificate says of it: plain pairs, T-Sub in a plain derivation, and the seal.
--
--  1  type Item
--  2    def get(): {} Int
--  3  type Giver
--  4    def give(): {} Item
--  5  plain module giver(): Giver
--  6    def give(): Item
--  7      new
--  8        def get(): Int = 1
--  9  program
-- 10    run: {}
-- 11      ()
use Rattle.std.proofs.Common.{◌≡◌, pos, List, [], ◌∷◌, refl, ap, inl, inr, arith}
use Rattle.std.specs.Prelude.{codes}
use Rattle.wy_types.specs.declared.types.TypeRef.TheVariants as to
use Rattle.wy_types.specs.declared.types.Method.{Method}
use Rattle.wy_types.specs.Code as code
use Rattle.wy_types.specs.Program.{Program, Scope}
use Rattle.wy_rules.proofs.Each.{each}
use Rattle.wy_cert.specs.declared.certificate.Rule.TheVariants as by
use Rattle.wy_cert.specs.declared.certificate.CertType.TheVariants.{Int, Named, Own}
use Rattle.wy_cert.specs.declared.certificate.CertPair.{CertPair}
use Rattle.wy_cert.specs.declared.certificate.CertNode.{CertNode}
use Rattle.wy_cert.specs.declared.certificate.CertScope.{CertScope}
use Rattle.wy_proving.specs.declared.proof.CertTest.TheVariants.{Lines}
use Rattle.wy_proving.specs.Certified.{Pair, types_of}
use Rattle.wy_proving.specs.Reading.{bodies_stand, bodies_fail}
use Rattle.wy_proving.specs.Proving.{TypeStands, TypesHold, RuleStands, ascription, LinesHold, nodes_read}
use Rattle.wy_proving.specs.Unproved.{FailsAt}
use Rattle.wy_proving.proofs.ExamplesForms.{at, object, method, type_with, body, plain_module, main_of, program, node, pair}

abbrev give : Method
give = method (codes "give") (to.Named 5 [])

abbrev get : Method
get = method (codes "get") to.Int

abbrev giver : Scope
giver = plain_module (codes "giver") 6 (object ∷ []) (at 5 1) (body 0 (at 6 3) give (code.New (at 7 5) 1 code.none) ∷ body 1 (at 8 7) get (code.Number (at 8 24) (pos 1)) ∷ [])

abbrev giver_program : Program
giver_program = program (type_with (codes "Item") get ∷ type_with (codes "Giver") give ∷ []) (giver ∷ main_of [] (at 10 3) (code.Last (code.Plain (code.Nothing (at 11 5)))) [] ∷ [])

abbrev six_nodes : List CertNode
six_nodes = node by.Body 5 1 0 0 ∷ node by.New 7 5 0 2 ∷ node by.Sub 7 5 1 3 ∷ node by.Body 6 3 1 0 ∷ node by.Lit 8 24 0 4 ∷ node by.Body 8 7 1 0 ∷ []

-- what is said of the module, with these plain pairs
abbrev saying : List CertPair → CertScope
saying plain = record { types = Own 0 ∷ Named 6 [] ∷ Own 1 ∷ Named 5 [] ∷ Int ∷ []; pairs = []; plain = plain; locals = []; nodes = six_nodes }

-- items and numbers are such, the object is an item, and the module a giver
abbrev four_pairs : List CertPair
four_pairs = pair 3 3 ∷ pair 4 4 ∷ pair 2 3 ∷ pair 0 1 ∷ []

-- the nodes are read, and without its pair T-Sub fails
module_read : nodes_read giver_program 0 giver (saying four_pairs) ≡ bodies_stand 6 []
module_read = refl

pair_wanting : nodes_read giver_program 0 giver (saying (pair 3 3 ∷ pair 4 4 ∷ pair 0 1 ∷ [])) ≡ bodies_fail 2
pair_wanting = refl

-- in a plain module a declared type has no sets
module_types : TypesHold giver_program 0 giver (saying four_pairs)
module_types =
    each (TypeStands giver_program giver) (types_of (saying four_pairs))
    ((omega arith, tt), ((omega arith, refl, (λ e i. absurd i)), ((omega arith, tt), ((omega arith, refl, (λ e i. absurd i)), (tt, tt)))))

-- the seal is the module's one rule, by its pair, and fails without it
module_lines : LinesHold giver_program 0 giver (saying four_pairs)
module_lines = each (RuleStands giver_program 0 giver (saying four_pairs)) (ascription 6 ∷ []) ((inr (inr (inr (inl refl))), tt), tt)

abbrev three_pairs : List CertPair
three_pairs = pair 3 3 ∷ pair 4 4 ∷ pair 2 3 ∷ []

seal_wanting : FailsAt giver_program 0 giver (saying three_pairs) Lines 0
seal_wanting = record { element = ascription 6; there = refl; fails = unlisted; before = λ j r l e. absurd (omega (arith, l)) }
  where
    unlisted : RuleStands giver_program 0 giver (saying three_pairs) (ascription 6) → ⊥
    unlisted h = elim h.0 [
      | inl e ↦ absurd (let f = ap (λ (q : Pair). q.0) e in cc)
      | inr i2 ↦ elim i2 [
        | inl e ↦ absurd (let f = ap (λ (q : Pair). q.0) e in cc)
        | inr i3 ↦ elim i3 [ inl e ↦ absurd (let f = ap (λ (q : Pair). q.0) e in cc) | inr z ↦ z ]
      ]
    ]
