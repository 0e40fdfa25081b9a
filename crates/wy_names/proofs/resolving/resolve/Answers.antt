use Rattle.std.proofs.Common.{◌≡◌, map, sym, ap, ◌∙◌, None, rules}
use Rattle.wy_syntax.specs.Views.{file_tree}
use Rattle.wy_types.specs.declared.resolved.Core.{Core}
use Rattle.wy_types.specs.Program.{program_of}
use Rattle.wy_names.specs.declared.refusal.NameRefusal.{NameRefusal}
use Rattle.wy_symbols.specs.Declarations.{declared, all_items}
use Rattle.wy_heads.specs.Counts.{first_passed, limits}
use Rattle.wy_names.specs.Judged.{IsBound, IsRefusal}
use Rattle.wy_names.specs.Names.{Resolves, Refused}
use Rattle.wy_symbols.specs.Lent.{lent_type, module_tree, lent_program, lent_declared}
use Rattle.wy_names.proofs.Judging.{resolves, refused, declared_is, ok_map, err_map}
use Rattle.wy_names.proofs.resolving.resolve.Goals as goal

pub returns-clause-core : goal.returns-clause-core
returns-clause-core c =
    let items = all_items (map file_tree c.args.trees.now) in
    let before = lent_declared c.deref.result.now c.deref-2.result.now c.deref-3.result.now in
    let d = lent_declared c.deref-in-Ok-None.result.now c.deref-in-Ok-None-2.result.now c.deref-in-Ok-None-3.result.now in
    let was : before ≡ declared items = declared_is items before
    (ap (map lent_type) c.deref.ensures.value ∙ c.in-Ok.ensures.types) (ap (map module_tree) c.deref-2.ensures.value ∙ c.in-Ok.ensures.modules) (ap (map lent_program) c.deref-3.ensures.value ∙ c.in-Ok.ensures.programs) in
    let is : d ≡ declared items = declared_is items d
    (ap (map lent_type) c.deref-in-Ok-None.ensures.value ∙ c.in-Ok.ensures.types) (ap (map module_tree) c.deref-in-Ok-None-2.ensures.value ∙ c.in-Ok.ensures.modules) (ap (map lent_program) c.deref-in-Ok-None-3.ensures.value ∙ c.in-Ok.ensures.programs) in
    let within : first_passed limits d ≡ None = ap (first_passed limits) is ∙ sym (ap (first_passed limits) was) ∙ search rules in
    ok_map c.judge.result (λ (core : Core). IsBound d (program_of core)) (λ (core : Core). Resolves items (program_of core))
    (λ core h. resolves items d (program_of core) is within h) c.judge.ensures.core

pub returns-clause-refusal : goal.returns-clause-refusal
returns-clause-refusal c =
    let items = all_items (map file_tree c.args.trees.now) in
    let before = lent_declared c.deref.result.now c.deref-2.result.now c.deref-3.result.now in
    let d = lent_declared c.deref-in-Ok-None.result.now c.deref-in-Ok-None-2.result.now c.deref-in-Ok-None-3.result.now in
    let was : before ≡ declared items = declared_is items before
    (ap (map lent_type) c.deref.ensures.value ∙ c.in-Ok.ensures.types) (ap (map module_tree) c.deref-2.ensures.value ∙ c.in-Ok.ensures.modules) (ap (map lent_program) c.deref-3.ensures.value ∙ c.in-Ok.ensures.programs) in
    let is : d ≡ declared items = declared_is items d
    (ap (map lent_type) c.deref-in-Ok-None.ensures.value ∙ c.in-Ok.ensures.types) (ap (map module_tree) c.deref-in-Ok-None-2.ensures.value ∙ c.in-Ok.ensures.modules) (ap (map lent_program) c.deref-in-Ok-None-3.ensures.value ∙ c.in-Ok.ensures.programs) in
    let within : first_passed limits d ≡ None = ap (first_passed limits) is ∙ sym (ap (first_passed limits) was) ∙ search rules in
    err_map c.judge.result (IsRefusal d) (λ (r : NameRefusal). Refused items r) (λ r h. refused items d r is within h) c.judge.ensures.refusal
