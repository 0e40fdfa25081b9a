use Rattle.std.proofs.Common.{◌≡◌, ap, subst, ◌∙◌, sym, if◌then◌else◌}
use Rattle.std.specs.Prelude.{IfOk, false}
use Rattle.wy_types.specs.declared.types.TypeRef.{TypeRef}
use Rattle.wy_symbols.specs.Atoms.{head_names, param_owner, param_opening}
use Rattle.wy_heads.specs.Lines.{opened_type, param_type}
use Rattle.wy_symbols.specs.TypeUses.{type_ref}
use Rattle.wy_heads.proofs.own_names.param_type.Goals as goal

pub returns-then-is_bare : goal.returns-then-is_bare
returns-then-is_bare c =
    let s = c.args.scope.now in
    let p = c.args.param.now in
    let opened = c.own_type.ensures (param_owner (head_names c.args.owners.now.heads) p) c.requires.there in
    let bare : opened_type c.args.owners.now.heads c.args.owners.now.atoms p.name.text (param_opening (head_names c.args.owners.now.heads) p.type_use) ≡ param_type s p.name.text p.type_use =
    ap (λ a. opened_type c.args.owners.now.heads a p.name.text (param_opening (head_names c.args.owners.now.heads) p.type_use)) (sym c.requires.atoms)
    ∙ ap (λ h. opened_type h s.atoms p.name.text (param_opening (head_names h) p.type_use)) (sym c.requires.heads)
    ∙ sym (ap (λ b. if b then opened_type s.heads s.atoms p.name.text (param_opening (head_names s.heads) p.type_use) else type_ref s false p.type_use) (sym c.is_bare.ensures ∙ c.if-is_bare.true)) in
    let P : TypeRef → Type 0 = λ r. IfOk c.own_type.result (λ t. t ≡ r) in
    subst P bare opened
