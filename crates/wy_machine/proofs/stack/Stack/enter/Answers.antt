use Rattle.std.proofs.Common.{◌≡◌, ◌+◌, ◌-◌, ◌*◌, ◌<◌, ◌≤◌, [], ◌∷◌, ◌++◌, length, take, drop, reverse, replicate, sym, ap, ap₂, ◌∙◌, subst, arith}
use Rattle.std.specs.Prelude.{is_ok, vec_capacity, if◌then◌else◌}
use Rattle.std.proofs.lemmas.List.{reverse-append, length-reverse, length-drop, length-append, length-replicate, take_all}
use Rattle.wy_code.specs.Stores.{Nothing}
use Rattle.wy_machine.specs.Stacks.{AreWaiting, IsStacked, entered}
use Rattle.wy_machine.specs.OpenBodies.{StackState}
use Rattle.wy_machine.specs.declared.stack.Frame.{Frame}
use Rattle.wy_machine.proofs.Cuts.{stack_of, entered_is, length-open_bodies}
use Rattle.wy_machine.proofs.Rooms.{waits, room_to_call}
use Rattle.wy_machine.proofs.stack.Stack.enter.Goals as goal

pub unwrap-requires : goal.unwrap-requires
unwrap-requires c =
    let s = c.self.inside in
    let words = s.words.items in
    let few = subst (λ (s : StackState). c.args.arguments < length s.running.operands) (sym c.self.view_is) c.requires.there in
    let len : c.len.result ≡ length words = c.len.ensures ∙ s.words.ok.0 in
    let len2 : c.len-2.result ≡ length words = c.len-2.ensures ∙ s.words.ok.0 in
    let operands : c.args.arguments < length words - s.running.top = omega (arith, few, length-reverse (drop s.running.top words), length-drop s.running.top words) in
    let shallow = subst (λ (s : StackState). length s.callers < s.limits.depth) (sym c.self.view_is) c.requires.few in
    let below : length (reverse s.callers.items) < s.limits.depth = omega (arith, shallow, length-open_bodies (reverse s.callers.items) (take s.running.base words)) in
    let fits = subst (λ (s : StackState). 1 + c.args.arguments + c.args.vals ≤ s.limits.words) (sym c.self.view_is) c.requires.room in
    let room = room_to_call s.limits s.running (reverse s.callers.items) (length words) _ _ c.self.invariant c.args.arguments operands below in
    let enough : c.len-2.result + c.args.vals ≤ vec_capacity s.words = omega (arith, room, fits, operands, len2) in
    c.resize.ensures.succeeds enough

pub push_reserved-requires : goal.push_reserved-requires
push_reserved-requires c =
    let s = c.self.inside in
    let shallow = subst (λ (s : StackState). length s.callers < s.limits.depth) (sym c.self.view_is) c.requires.few in
    omega (arith, shallow, length-open_bodies (reverse s.callers.items) (take s.running.base s.words.items), length-reverse s.callers.items, s.callers.ok.0, c.self.invariant.6)

pub invariant_of-self : goal.invariant_of-self
invariant_of-self c =
    let s = c.self.inside in
    let words = s.words.items in
    let few = subst (λ (s : StackState). c.args.arguments < length s.running.operands) (sym c.self.view_is) c.requires.there in
    let len : c.len.result ≡ length words = c.len.ensures ∙ s.words.ok.0 in
    let len2 : c.len-2.result ≡ length words = c.len-2.ensures ∙ s.words.ok.0 in
    let operands : c.args.arguments < length words - s.running.top = omega (arith, few, length-reverse (drop s.running.top words), length-drop s.running.top words) in
    let shallow = subst (λ (s : StackState). length s.callers < s.limits.depth) (sym c.self.view_is) c.requires.few in
    let below : length (reverse s.callers.items) < s.limits.depth = omega (arith, shallow, length-open_bodies (reverse s.callers.items) (take s.running.base words)) in
    let fits = subst (λ (s : StackState). 1 + c.args.arguments + c.args.vals ≤ s.limits.words) (sym c.self.view_is) c.requires.room in
    let room = room_to_call s.limits s.running (reverse s.callers.items) (length words) _ _ c.self.invariant c.args.arguments operands below in
    let more : c.len-2.result + c.args.vals - s.words.len ≡ c.args.vals = omega (arith, s.words.ok.0) in
    let all : length words ≤ c.len-2.result + c.args.vals = omega arith in
    let grown : c.resize.new.self.items ≡ words ++ replicate c.args.vals Nothing = c.resize.ensures.items ∙ ap (λ b. if b then take (c.len-2.result + c.args.vals) words ++ replicate (c.len-2.result + c.args.vals - s.words.len) c.new.result else words) (ap is_ok c.unwrap.ensures) ∙ ap₂ (λ l r. l ++ r) (take_all (c.len-2.result + c.args.vals) words all) (ap₂ replicate more c.new.ensures) in
    let back : reverse c.push_reserved.new.self.items ≡ s.running ∷ reverse s.callers.items = ap reverse c.push_reserved.ensures.items ∙ reverse-append s.callers.items (s.running ∷ []) in
    let f : Frame = record { instance = c.args.instance; body = c.args.body; at = 0; base = c.len.result - 1 - c.args.arguments; top = c.len-2.result + c.args.vals } in
    let base : c.len.result - 1 - c.args.arguments ≡ length words - (c.args.arguments + 1) = omega arith in
    let size : length c.resize.new.self.items ≡ length words + c.args.vals = ap length grown ∙ length-append words (replicate c.args.vals Nothing) ∙ ap (λ n. length words + n) (length-replicate c.args.vals Nothing) in
    let low : f.base < f.top = omega (arith, len, len2, operands) in
    let top : f.top ≤ length c.resize.new.self.items = omega (arith, size, len2) in
    let waiting = subst (AreWaiting s.limits.words (s.running ∷ reverse s.callers.items)) (sym base) (waits s.limits s.running (reverse s.callers.items) (length words) _ _ c.self.invariant c.args.arguments operands) in
    let high : length c.resize.new.self.items ≤ f.base + s.limits.words = omega (arith, size, base, fits, operands) in
    let deep : length (s.running ∷ reverse s.callers.items) ≤ s.limits.depth = omega (arith, below) in
    let room_kept = c.resize.ensures.capacity in
    let enough : s.limits.words * (s.limits.depth + 1) ≤ vec_capacity c.resize.new.self = omega (arith, room_kept, c.self.invariant.5) in
    let frames : s.limits.depth ≤ vec_capacity c.push_reserved.new.self = omega (arith, c.push_reserved.ensures.capacity, c.self.invariant.6) in
    subst (λ fs. IsStacked s.limits f fs (length c.resize.new.self.items) (vec_capacity c.resize.new.self) (vec_capacity c.push_reserved.new.self)) (sym back)
    (low, top, waiting, high, deep, enough, frames)

pub returns : goal.returns
returns c =
    let s = c.self.inside in
    let words = s.words.items in
    let le : s.running.base ≤ s.running.top = omega (arith, c.self.invariant.0) in
    let few = subst (λ (s : StackState). c.args.arguments < length s.running.operands) (sym c.self.view_is) c.requires.there in
    let len : c.len.result ≡ length words = c.len.ensures ∙ s.words.ok.0 in
    let len2 : c.len-2.result ≡ length words = c.len-2.ensures ∙ s.words.ok.0 in
    let top : c.len-2.result + c.args.vals ≡ length words + c.args.vals = omega arith in
    let more : c.len-2.result + c.args.vals - s.words.len ≡ c.args.vals = omega (arith, s.words.ok.0) in
    let all : length words ≤ c.len-2.result + c.args.vals = omega arith in
    let grown : c.resize.new.self.items ≡ words ++ replicate c.args.vals Nothing = c.resize.ensures.items ∙ ap (λ b. if b then take (c.len-2.result + c.args.vals) words ++ replicate (c.len-2.result + c.args.vals - s.words.len) c.new.result else words) (ap is_ok c.unwrap.ensures) ∙ ap₂ (λ l r. l ++ r) (take_all (c.len-2.result + c.args.vals) words all) (ap₂ replicate more c.new.ensures) in
    let back : reverse c.push_reserved.new.self.items ≡ s.running ∷ reverse s.callers.items = ap reverse c.push_reserved.ensures.items ∙ reverse-append s.callers.items (s.running ∷ []) in
    let f : Frame = record { instance = c.args.instance; body = c.args.body; at = 0; base = c.len.result - 1 - c.args.arguments; top = c.len-2.result + c.args.vals } in
    let base : c.len.result - 1 - c.args.arguments ≡ length words - (c.args.arguments + 1) = omega arith in
    ap₂ (stack_of s.limits f) back grown
    ∙ entered_is s.limits s.running (reverse s.callers.items) words c.args.instance c.args.body c.args.arguments c.args.vals _ _ le c.self.invariant.1 few base top
    ∙ ap (entered c.args.instance c.args.body c.args.arguments c.args.vals) c.self.view_is
