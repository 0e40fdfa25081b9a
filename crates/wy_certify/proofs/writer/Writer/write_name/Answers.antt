use Rattle.std.proofs.Common.{sym, ap, ◌∙◌, ◌∷◌, [], Some}
use Rattle.wy_types.specs.declared.types.TypeRef.{TypeRef}
use Rattle.wy_cert.specs.declared.certificate.Rule.TheVariants.{Var}
use Rattle.wy_proving.specs.Steps.{step}
use Rattle.wy_certify.specs.Written.{name_typ}
use Rattle.wy_certify.specs.Writer.{context_of}
use Rattle.wy_certify.proofs.Gathering.{so, two}
use Rattle.wy_certify.proofs.Parts.{name_steps, name_gives}
use Rattle.wy_certify.proofs.writer.Writer.write_name.Goals as goal

pub returns : goal.returns
returns c =
    let w = context_of c.args.self.now in
    let q = c.args.place in
    let gives = name_gives w q c.args.binding in
    so (two (c.take-typ.ensures (name_typ w c.args.binding) c.name_type.ensures) c.leaf.ensures) (λ g.
    (ap (λ (k : TypeRef). step Var q 0 (Some k) [] ∷ []) g.0 ∙ sym (name_steps w q c.args.binding), (g.1.0 ∙ g.0 ∙ sym gives.0, g.1.1 ∙ sym gives.1)))
