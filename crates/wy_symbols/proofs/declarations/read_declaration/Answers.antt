use Rattle.std.proofs.Common.{◌≡◌, [], ◌++◌, ap, ◌∙◌, sym, rules, append_assoc, Ok, Err}
use Rattle.std.specs.Prelude.{Result, OnOk}
use Rattle.wy_text.specs.declared.text.Memory.{Memory}
use Rattle.wy_types.specs.declared.resolved.TypeDecl.{TypeDecl}
use Rattle.wy_symbols.specs.Least.{noted}
use Rattle.wy_symbols.specs.Declarations.{repeated}
use Rattle.wy_symbols.specs.Atoms.{members_after}
use Rattle.wy_symbols.specs.TypeUses.{declaration_scope, member_names, method_names, members_refusals, declaration_refusals}
use Rattle.wy_symbols.proofs.Leasts.{noted_append}
use Rattle.wy_symbols.proofs.declarations.read_declaration.Goals as goal

pub returns-clause-noted : goal.returns-clause-noted
returns-clause-noted c =
    let heads = c.args.types.now.heads in
    let ms = c.args.decl.now.members in
    let start = c.args.least.now in
    let before = c.note_repeated_members.new.least in
    let effects = repeated [] (member_names ms) in
    let methods = repeated [] (method_names ms) in
    let inside = members_refusals (declaration_scope heads (members_after [] 0 ms)) [] 0 ms in
    let scope : c.new-scope.result ≡ declaration_scope heads (members_after [] 0 ms) = search rules in
    let all : c.read_members.new.least ≡ noted start (declaration_refusals heads c.args.decl.now) =
    c.in_ok-methods.ensures.noted ∙ ap (λ l. noted before (members_refusals c.new-scope.result [] 0 l)) c.as_slice-3.ensures
    ∙ ap (λ s. noted before (members_refusals s [] 0 ms)) scope
    ∙ ap (λ o. noted o inside)
    (c.in_ok-note_repeated_members.ensures ∙ ap (λ l. noted start (repeated [] (member_names l) ++ repeated [] (method_names l))) c.as_slice.ensures)
    ∙ sym (noted_append start (effects ++ methods) inside) ∙ ap (noted start) (append_assoc effects methods inside) in
    let P : Result TypeDecl Memory → Type 0 = λ r. OnOk r (c.read_members.new.least ≡ noted start (declaration_refusals heads c.args.decl.now)) in
    elim c.declared.result as P [ Ok u ↦ all | Err e ↦ tt ]
