-- The statuses that refusals of names give, names that resolve, and names that are refused, tried on examples.
use Rattle.std.proofs.Common.{◌≡◌, inl, inr, ℕ, List, [], ◌∷◌, Some, None, refl, sym, ap}
use Rattle.wy_text.specs.declared.fault.Place.{Place}
use Rattle.wy_text.specs.declared.fault.RuleName.TheVariants as rule
use Rattle.wy_text.specs.declared.limit.LimitName.TheVariants as limit
use Rattle.wy_syntax.specs.Trees.{unit, value, run, no_stmts, more_stmts, long, ItemTree, program_item}
use Rattle.wy_heads.specs.Cycles.{IsCycle}
use Rattle.wy_symbols.specs.Declarations.{ProgramTree, all_items}
use Rattle.wy_symbols.specs.Least.{comes_before, refusal_at}
use Rattle.wy_names.specs.Names.{Refused}
use Rattle.wy_names.specs.Scopes.{resolved}
use Rattle.wy_symbols.specs.declared.refusal.Cause.TheVariants as cause
use Rattle.wy_names.specs.declared.refusal.NameRefusal.TheVariants as refusal
use Rattle.wy_symbols.specs.declared.refusal.Refusal.{Refusal}
use Rattle.wy_engine.specs.NameFaults.{NamesResolve, names_status}
use Rattle.wy_engine.specs.declared.status.Status.TheVariants as status

abbrev at : ℕ → ℕ → Place
at line column = record { file = 1; line = line; column = column }

-- ---- the fault that a refusal gives

no_program_fault : names_status refusal.NoProgram ≡ status.Refused (record { place = at 1 1; rule = rule.NNoProgram; premise = 1; atom = None })
no_program_fault = refl

unknown_fault : names_status (refusal.Unknown (at 3 17)) ≡ status.Refused (record { place = at 3 17; rule = rule.NUnknown; premise = 1; atom = None })
unknown_fault = refl

grants_status : names_status (refusal.Limit limit.Grants) ≡ status.Limit limit.Grants
grants_status = refl

-- ---- a program block that does nothing: its names resolve

abbrev block : ProgramTree
block = record {
  place = at 1 1;
  grants = [];
  uses = [];
  lines = [];
  run = at 2 3;
  effect = [];
  body = long (more_stmts (run (value (unit (at 3 5)))) no_stmts);
}

abbrev empty_file : List ItemTree
empty_file = program_item (at 1 1) [] [] [] (at 2 3) [] (long (more_stmts (run (value (unit (at 3 5)))) no_stmts)) ∷ []

no_cycles : (r : Refusal) → IsCycle [] r → ⊥
no_cycles r is = let e : None ≡ Some is.names.from = is.names.there in cc

empty_resolves : NamesResolve (empty_file ∷ [])
empty_resolves = record {
  program = resolved (all_items (empty_file ∷ [])) block;
  resolves = record {
    program = block;
    one = refl;
    bound = refl;
    within = refl;
    sound = λ r refuses. elim refuses [ inl here ↦ absurd here | inr cycle ↦ no_cycles r cycle ];
  };
}

-- ---- no file at all, and so no program block

no_block : Refused (all_items ([] ∷ [])) refusal.NoProgram
no_block = record {
  none = refl;
  within = refl;
  sound = λ r refuses. elim refuses [ inl here ↦ absurd here | inr cycle ↦ no_cycles r cycle ];
}

-- ---- two blocks

abbrev two_blocks : List ItemTree
two_blocks = program_item (at 1 1) [] [] [] (at 2 3) [] (long (more_stmts (run (value (unit (at 3 5)))) no_stmts))
    ∷ program_item (at 4 1) [] [] [] (at 5 3) [] (long (more_stmts (run (value (unit (at 6 5)))) no_stmts)) ∷ []

second_block : Refused (all_items (two_blocks ∷ [])) (refusal.TwoPrograms (at 4 1))
second_block = record {
  within = refl;
  first = record {
    among = inl (inl refl);
    least = λ x refuses. elim refuses [ inl here ↦ elim here [ inl is ↦ ap (λ (r : Refusal). comes_before r (refusal_at (at 4 1) cause.TwoPrograms)) (sym is) | inr none ↦ absurd none ] | inr cycle ↦ absurd (no_cycles x cycle) ];
  };
}
