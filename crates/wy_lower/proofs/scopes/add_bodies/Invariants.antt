use Rattle.std.proofs.Common.{◌≡◌, ◌<◌, ℕ, length, map, take, drop, get_or, None}
use Rattle.wy_types.specs.Program.{body_of}
use Rattle.wy_lower.specs.Parts.{each_once_after, texts_in, calls_in, bodies_parts}
use Rattle.wy_lower.specs.EmitScopes.{maker_of, bodies_vals}
use Rattle.wy_lower.proofs.scopes.add_bodies.Given as goal

abbrev pub invariant-loop-k : goal.invariant-loop-k
invariant-loop-k l = record {
  texts : each_once_after l.names.texts.keys (texts_in (bodies_parts (map body_of (drop l.k l.bodies)))) ≡ each_once_after l.initial.names.texts.keys (texts_in (bodies_parts (map body_of l.bodies)));
  methods : each_once_after l.names.methods.keys (calls_in (bodies_parts (map body_of (drop l.k l.bodies)))) ≡ each_once_after l.initial.names.methods.keys (calls_in (bodies_parts (map body_of l.bodies)));
  vals : l.all.items ≡ bodies_vals (map body_of (take l.k l.bodies));
  long : length l.makers.items ≡ length l.initial.makers.items;
  makers : (m : ℕ) → m < length l.initial.makers.items → get_or l.initial.makers.items m None ≡ None → get_or l.makers.items m None ≡ maker_of m (map body_of (take l.k l.bodies));
}
