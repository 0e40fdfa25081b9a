-- The refusals and the owners of parameters one by one.
use Rattle.std.proofs.Common.{◌≡◌, ℕ, List, refl, [], ◌∷◌, ◌++◌, Bool, true, false, sym, ap}
use Rattle.std.proofs.lemmas.List.{append-nil}
use Rattle.wy_syntax.specs.declared.types.Param.{Param}
use Rattle.wy_symbols.specs.Atoms.{AtomScope, params_owners}
use Rattle.wy_symbols.specs.TypeUses.{plain_refusals, type_refusals}
use Rattle.wy_heads.specs.Lines.{param_refusals}

pub params_more : (s : AtomScope) (plain : Bool) (p : Param) (ps : List Param) → param_refusals s plain (p ∷ ps) ≡ param_refusals s plain (p ∷ []) ++ param_refusals s plain ps
params_more s true p ps = ap (λ l. l ++ param_refusals s true ps) (sym (append-nil (plain_refusals s p.type_use)))
params_more s false p ps = ap (λ l. l ++ param_refusals s false ps) (sym (append-nil (type_refusals s true p.type_use)))

pub owners_more : (names : List (List ℕ)) (plain : Bool) (p : Param) (ps : List Param) → params_owners names plain (p ∷ ps) ≡ params_owners names plain (p ∷ []) ++ params_owners names plain ps
owners_more names true p ps = refl
owners_more names false p ps = refl
