use Rattle.std.proofs.Common.{◌<◌, ◌+◌, ◌++◌, ◌∷◌, [], List, ap, sym, ◌∙◌, rules, drop, length, false}
use Rattle.std.specs.Prelude.{ℕ}
use Rattle.wy_syntax.specs.declared.items.Member.{Member}
use Rattle.wy_symbols.specs.declared.scoping.Meaning.{Meaning}
use Rattle.wy_symbols.specs.Atoms.{set_refusals, member_scope, abstract_member, bounded_member, defined_member, set_of}
use Rattle.wy_symbols.specs.TypeUses.{method_of, declared_methods, members_refusals, signature_refusals}
use Rattle.wy_symbols.proofs.Turns.{next_of}
use Rattle.wy_symbols.proofs.Leasts.{noted_turn, noted_same}
use Rattle.wy_symbols.proofs.Nexts.{added_turn, kept_turn}
use Rattle.wy_symbols.proofs.declarations.add_members.Goals as goal
use Rattle.wy_symbols.proofs.declarations.add_members.Goals.{in-Abstract+in_ok-add_abstract-in-Abstract, in-Bounded+in_ok-read_bounded-in-Bounded, in-Defined+in_ok-read_defined-in-Defined, in-Method+in_ok-add_method-in-Method}

pub loop-member-preserved : goal.loop-member-preserved
loop-member-preserved c =
    let lt : c.loop-member.member-index < length c.args.members.now = search rules in
    let s = c.args.scope.now in
    let before = c.loop-member.before in
    let k = c.loop-member.number in
    let left = drop (c.loop-member.member-index + 1) c.args.members.now in
    let now = members_refusals s before k (drop c.loop-member.member-index c.args.members.now) in
    let all = members_refusals s [] 0 c.args.members.now in
    let next = next_of c.args.members.now c.loop-member.member-index c.member-item.result lt c.member-item.is in
    let methods = declared_methods s in
    let given = methods (drop c.loop-member.member-index c.args.members.now) in
    let follows = λ (b : List Meaning) (n : ℕ). members_refusals s b n left in
    elim c.match-member.branch [
      | in-Abstract+in_ok-add_abstract-in-Abstract w ↦ record {
        number = search rules;
        methods = kept_turn c.loop-member.methods c.match-member.methods (methods left) given (c.args.methods.now ++ methods c.args.members.now) w.methods-is
            (ap methods (next ∙ ap (λ (m : Member). m ∷ left) w.in-Abstract.is)) c.loop-member.invariant.methods;
        least = noted_same c.loop-member.least c.match-member.least c.args.least.now now (follows c.match-member.before c.match-member.number) all w.least-is
            (ap (members_refusals s before k) (next ∙ ap (λ (m : Member). m ∷ left) w.in-Abstract.is)
            ∙ sym (ap (λ b. follows b c.match-member.number) (w.before-is ∙ w.in_ok-add_abstract-in-Abstract.ensures) ∙ ap (follows (before ++ abstract_member w.in-Abstract.name.text k ∷ [])) w.number-is))
            c.loop-member.invariant.least;
      }
      | in-Bounded+in_ok-read_bounded-in-Bounded w ↦ record {
        number = search rules;
        methods = kept_turn c.loop-member.methods c.match-member.methods (methods left) given (c.args.methods.now ++ methods c.args.members.now) w.methods-is
            (ap methods (next ∙ ap (λ (m : Member). m ∷ left) w.in-Bounded.is)) c.loop-member.invariant.methods;
        least = noted_turn c.loop-member.least c.match-member.least c.args.least.now (set_refusals (member_scope before) w.in-Bounded.set) (follows c.match-member.before c.match-member.number) now all
            (search rules)
            (ap (members_refusals s before k) (next ∙ ap (λ (m : Member). m ∷ left) w.in-Bounded.is)
            ∙ ap (λ l. set_refusals (member_scope before) w.in-Bounded.set ++ l)
            (sym (ap (λ b. follows b c.match-member.number) (search rules) ∙ ap (follows (before ++ bounded_member w.in-Bounded.name.text k (set_of (member_scope before) w.in-Bounded.set) ∷ [])) w.number-is)))
            c.loop-member.invariant.least;
      }
      | in-Defined+in_ok-read_defined-in-Defined w ↦ record {
        number = search rules;
        methods = kept_turn c.loop-member.methods c.match-member.methods (methods left) given (c.args.methods.now ++ methods c.args.members.now) w.methods-is
            (ap methods (next ∙ ap (λ (m : Member). m ∷ left) w.in-Defined.is)) c.loop-member.invariant.methods;
        least = noted_turn c.loop-member.least c.match-member.least c.args.least.now (set_refusals (member_scope before) w.in-Defined.set) (follows c.match-member.before c.match-member.number) now all
            (search rules)
            (ap (members_refusals s before k) (next ∙ ap (λ (m : Member). m ∷ left) w.in-Defined.is)
            ∙ ap (λ l. set_refusals (member_scope before) w.in-Defined.set ++ l)
            (sym (ap (λ b. follows b c.match-member.number) (search rules) ∙ ap (follows (before ++ defined_member w.in-Defined.name.text (set_of (member_scope before) w.in-Defined.set) ∷ [])) w.number-is)))
            c.loop-member.invariant.least;
      }
      | in-Method+in_ok-add_method-in-Method w ↦ record {
        number = search rules;
        methods = added_turn c.loop-member.methods c.match-member.methods (method_of s false w.in-Method.signature ∷ []) (methods left) given (c.args.methods.now ++ methods c.args.members.now)
            (search rules) (ap methods (next ∙ ap (λ (m : Member). m ∷ left) w.in-Method.is)) c.loop-member.invariant.methods;
        least = noted_turn c.loop-member.least c.match-member.least c.args.least.now (signature_refusals s false w.in-Method.signature) (follows c.match-member.before c.match-member.number) now all
            (search rules)
            (ap (members_refusals s before k) (next ∙ ap (λ (m : Member). m ∷ left) w.in-Method.is)
            ∙ ap (λ l. signature_refusals s false w.in-Method.signature ++ l)
            (sym (ap (λ b. follows b c.match-member.number) w.before-is ∙ ap (follows before) w.number-is)))
            c.loop-member.invariant.least;
      }
    ]
