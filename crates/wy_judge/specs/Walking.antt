-- Judging a scope: its start, its bodies in their order, and what is known after each; and what the whole comes to.
use Rattle.std.specs.Prelude.{◌≡◌, ℕ, List, ◌++◌, map, take, length, slice_get, Option, Some, None, false}
use Rattle.wy_text.specs.declared.fault.Fault.{Fault}
use Rattle.wy_text.specs.Members.{In}
use Rattle.wy_types.specs.declared.types.TypeRef.{TypeRef}
use Rattle.wy_types.specs.declared.types.TypeRef.TheVariants.{Unit as Nothing}
use Rattle.wy_types.specs.declared.resolved.Body as b
use Rattle.wy_types.specs.Program.{Program, Scope, Body}
use Rattle.wy_types.specs.Types.{is_plain}
use Rattle.wy_types.specs.Vals.{start_vals, bodies_vals, block_vals, scope_vals}
use Rattle.wy_rules.specs.Acceptance.{scope_reading, MembersHold, AscriptionHolds}
use Rattle.wy_rules.specs.Nodes.{start_nodes, body_nodes, bodies_nodes, scope_nodes}
use Rattle.wy_rules.specs.Failing.{MembersFail, SealFails, named_atom, AllPass, IsScopeFault}
use Rattle.wy_judge.specs.declared.outcomes.Stop.{Stop}
use Rattle.wy_judge.specs.declared.outcomes.Stop.TheVariants as stop
use Rattle.wy_judge.specs.declared.scopes.Judged.{Judged}
use Rattle.wy_judge.specs.declared.scopes.Judged.TheVariants.{Passes, Fails}
use Rattle.wy_judge.specs.Judged.{NodesJudged, BodiesPassed}
use Rattle.wy_judge.specs.Outcomes.{seal_fault}
use Rattle.wy_judge.specs.Judging.{NoFault}
use Rattle.wy_judge.specs.Tables.{Table, EndsKnown, IsKnown, Agrees, AllInRange, Moves}

-- a list of types for all `val`s: those that are not known have none that matters
abbrev pub settled : Option TypeRef → TypeRef
settled None = Nothing
settled (Some t) = t

abbrev pub settled_types : Table → List TypeRef
settled_types table = map settled table

module _ (p : Program) (k : ℕ) (s : Scope) where
  -- the `val`s of the start and of so many bodies are known, and no others
  pub record Walked (table : Table) (i : ℕ) : Type 0 where
    pub range : AllInRange p k s table
    pub known : (n : ℕ) → In n (start_vals s.start ++ bodies_vals (take i s.bodies)) → IsKnown table n
    pub only : (n : ℕ) → IsKnown table n → In n (start_vals s.start ++ bodies_vals (take i s.bodies))
    pub ends : EndsKnown table

  -- the start, and a body: the first failing node of it
  pub record StartsTo (old new : Table) (o : Option Fault) : Type 0 where
    pub moves : Moves p k s old new (start_vals s.start) (NoFault o)
    pub judged : (locals : List (scope_reading p k s).Kind) → Agrees (scope_reading p k s) locals new → NodesJudged p k s locals (start_nodes s s.start) o

  pub record BodyTo (old new : Table) (b : Body) (o : Option Fault) : Type 0 where
    pub moves : Moves p k s old new (block_vals b.block) (NoFault o)
    pub judged : (locals : List (scope_reading p k s).Kind) → Agrees (scope_reading p k s) locals new → NodesJudged p k s locals (body_nodes s b) o

  -- all bodies, after the start
  abbrev pub WalkedAll : Table → Option Fault → Type 0
  WalkedAll table None = Walked table (length s.bodies)
  WalkedAll table (Some fault) = Unit {0}

  -- .. which keep the types that are known after it
  pub record BodiesTo (old new : Table) (o : Option Fault) : Type 0 where
    pub keeps : (n : ℕ) (t : TypeRef) → slice_get old n ≡ Some (Some t) → slice_get new n ≡ Some (Some t)
    pub walked : WalkedAll new o
    pub judged : (locals : List (scope_reading p k s).Kind) → Agrees (scope_reading p k s) locals new → NodesJudged p k s locals (bodies_nodes s s.bodies) o

  -- the bodies before a number, after the start: no node of them fails
  pub record BodiesWalked (bodies : List b.Body) (old new : Table) (i : ℕ) : Type 0 where
    pub keeps : (n : ℕ) (t : TypeRef) → slice_get old n ≡ Some (Some t) → slice_get new n ≡ Some (Some t)
    pub walked : Walked new i
    pub judged : (locals : List (scope_reading p k s).Kind) → Agrees (scope_reading p k s) locals new → BodiesPassed p k s locals bodies i

  -- the seal: M-Ascribe holds, or this is its first premise that is false
  abbrev pub IsSealFault : Option Fault → Type 0
  IsSealFault None = AscriptionHolds p k s
  IsSealFault (Some fault) = (n : ℕ) × (atom : Option ℕ) × SealFails p k s n atom × (fault ≡ seal_fault s.place n (named_atom s atom))

  -- .. its second premise, by itself
  abbrev pub IsMembersFault : Option Fault → Type 0
  IsMembersFault None = MembersHold p k s (is_plain s.kind)
  IsMembersFault (Some fault) = (a : ℕ) × (is_plain s.kind ≡ false) × MembersFail p k s s.ascribed (Some a) × (fault ≡ seal_fault s.place 2 (slice_get s.atoms a))

  -- .. after the bodies, where no node of them fails
  abbrev pub SealAfter : Option Fault → Option Fault → Type 0
  SealAfter None o = IsSealFault o
  SealAfter (Some fault) o = o ≡ Some fault

  -- every node passes over these types of the `val`s, one for each, by their numbers
  pub record PassesOver (types : List TypeRef) : Type 0 where
    pub nodes : AllPass p k s (map (scope_reading p k s).read types) (scope_nodes s)
    pub size : length types ≡ length (scope_vals s)

  -- a scope that passes over the types of its `val`s, or its fault
  abbrev pub IsJudged : Judged → Type 0
  IsJudged (Passes types) = PassesOver types
  IsJudged (Fails fault) = IsScopeFault p k s fault

-- .. where judging it stopped at a fault
abbrev pub IsStopped : Stop → Judged → Type 0
IsStopped end j = (fault : Fault) × (end ≡ stop.Fails fault) × (j ≡ Fails fault)

-- .. by the types that are known in the end, and its fault
abbrev pub judged_of : Table → Option Fault → Judged
judged_of table None = Passes (settled_types table)
judged_of table (Some fault) = Fails fault

-- .. the scope of a number
abbrev pub IsJudgedAt : Program → ℕ → Judged → Type 0
IsJudgedAt p k j = (s : Scope) × (slice_get p.scopes k ≡ Some s) × IsJudged p k s j
