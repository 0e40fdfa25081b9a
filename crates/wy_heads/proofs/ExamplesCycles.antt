-- Cycles on worked modules: `a` makes an instance of `b`, `b` uses `a`, and `c` uses itself.
use Rattle.std.proofs.Common.{List, [], ◌∷◌, refl, inl, None}
use Rattle.std.specs.Prelude.{codes}
use Rattle.wy_syntax.specs.declared.items.Line.TheVariants as line
use Rattle.wy_syntax.specs.Trees as t
use Rattle.wy_types.specs.declared.resolved.ScopeKind.TheVariants.{Pure, Resource}
use Rattle.wy_symbols.specs.declared.refusal.Cause.TheVariants.{Cycle}
use Rattle.wy_symbols.specs.Least.{refusal_at}
use Rattle.wy_symbols.specs.Declarations.{ModuleTree}
use Rattle.wy_heads.specs.Cycles.{Names, IsCycle}
use Rattle.wy_symbols.proofs.Sources.{at, word}

a : ModuleTree
a = record {
  kind = Resource;
  place = at 1 1;
  name = word (codes "a") 1 17;
  params = [];
  sealed = word (codes "N") 1 22;
  uses = [];
  lines = line.Instance (word (codes "x") 2 12) (word (codes "b") 2 16) [] ∷ [];
  defines = [];
  init = None;
  parts = t.no_parts;
}

b : ModuleTree
b = record {
  kind = Resource;
  place = at 3 1;
  name = word (codes "b") 3 17;
  params = [];
  sealed = word (codes "N") 3 22;
  uses = word (codes "a") 4 7 ∷ [];
  lines = [];
  defines = [];
  init = None;
  parts = t.no_parts;
}

c : ModuleTree
c = record {
  kind = Pure;
  place = at 5 1;
  name = word (codes "c") 5 8;
  params = [];
  sealed = word (codes "N") 5 11;
  uses = word (codes "c") 6 7 ∷ [];
  lines = [];
  defines = [];
  init = None;
  parts = t.no_parts;
}

modules : List ModuleTree
modules = a ∷ b ∷ c ∷ []

a_names_b : Names modules 0 (word (codes "b") 2 16) 1
unfolding modules a b c
a_names_b = record { from = a; there = refl; written = inl refl; number = refl }

b_names_a : Names modules 1 (word (codes "a") 4 7) 0
unfolding modules a b c
b_names_a = record { from = b; there = refl; written = inl refl; number = refl }

c_names_c : Names modules 2 (word (codes "c") 6 7) 2
unfolding modules a b c
c_names_c = record { from = c; there = refl; written = inl refl; number = refl }

-- each word that leads back is such a refusal, with its own place
at_the_line : IsCycle modules (refusal_at (at 2 16) Cycle)
at_the_line = record {
  back = 0;
  word = word (codes "b") 2 16;
  next = 1;
  names = a_names_b;
  path = 0 ∷ [];
  leads = ((word (codes "a") 4 7, b_names_a), refl);
  at = refl;
}

at_the_use : IsCycle modules (refusal_at (at 4 7) Cycle)
at_the_use = record {
  back = 1;
  word = word (codes "a") 4 7;
  next = 0;
  names = b_names_a;
  path = 1 ∷ [];
  leads = ((word (codes "b") 2 16, a_names_b), refl);
  at = refl;
}

-- a module that names itself
at_itself : IsCycle modules (refusal_at (at 6 7) Cycle)
at_itself = record { back = 2; word = word (codes "c") 6 7; next = 2; names = c_names_c; path = []; leads = refl; at = refl }
