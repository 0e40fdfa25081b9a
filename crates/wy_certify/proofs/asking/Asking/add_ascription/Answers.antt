use Rattle.std.proofs.Common.{inl, inr}
use Rattle.wy_certify.proofs.asking.Asking.add_ascription.Goals as goal

pub returns-in-Plain-mode : goal.returns-in-Plain-mode
returns-in-Plain-mode c = rw c.in-Plain-mode.is (rw c.in-Plain.is c.add_sealed.ensures)

pub returns-in-Annotated-mode : goal.returns-in-Annotated-mode
returns-in-Annotated-mode c = elim c.in-Pure.is [
  | inl e ↦ rw c.in-Annotated-mode.is (rw e c.add_sealed-in-Annotated-mode.ensures)
  | inr f ↦ elim f [
    | inl e ↦ rw c.in-Annotated-mode.is (rw e c.add_sealed-in-Annotated-mode.ensures)
    | inr e ↦ rw c.in-Annotated-mode.is (rw e c.add_sealed-in-Annotated-mode.ensures)
  ]
]
