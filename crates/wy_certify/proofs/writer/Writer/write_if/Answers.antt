use Rattle.std.proofs.Common.{ap, ◌∙◌, ◌∷◌, [], Some}
use Rattle.wy_types.specs.declared.types.TypeRef.{TypeRef}
use Rattle.wy_cert.specs.declared.certificate.Rule.TheVariants.{If}
use Rattle.wy_proving.specs.Steps.{step}
use Rattle.wy_certify.proofs.Gathering.{so, two}
use Rattle.wy_certify.proofs.writer.Writer.write_if.Goals as goal

pub returns : goal.returns
returns c =
    so (two (c.take-typ.ensures c.args.expected.now c.copy.ensures) c.given.ensures) (λ g.
    (ap (λ (k : TypeRef). step If c.args.place 3 (Some k) c.args.effect ∷ []) g.0, (g.1.0 ∙ g.0, g.1.1)))
