-- The object of the program block has no fields: its parts stand in the block alone, and a module is of another kind.
use Rattle.std.proofs.Common.{◌≡◌, [], refl}
use Rattle.std.specs.Prelude.{slice_get}
use Rattle.wy_types.specs.declared.resolved.ScopeKind.TheVariants.{Program as Main}
use Rattle.wy_types.specs.Program.{Scope}
use Rattle.wy_types.specs.Vals.{literal_fields}
use Rattle.wy_well_formed.specs.WellFormed.{ResolvedMainHasNoFields}
use Rattle.wy_well_formed.proofs.EachScope.{each_scope}
use Rattle.wy_well_formed.proofs.ModuleForms.{is_module, modules_have_form}

pub main_has_no_fields : ResolvedMainHasNoFields
main_has_no_fields items p r =
    let P : Scope → Type 0 = λ s. s.kind ≡ Main → literal_fields (slice_get s.literals 0) ≡ [] in
    each_scope items p r P (λ m i e. absurd (is_module m.kind m (modules_have_form items m i) e)) (λ e. refl)
