-- Texts whose names are refused: they have one refusal, which stops each call that judges names; their names do not
-- resolve; and no limit of reading is theirs.
use Rattle.std.proofs.Common.{◌≡◌, ◌≢◌, ◌⊎◌, inl, inr, ℕ, List, [], ◌∷◌, Some, Bool, true, false, if◌then◌else◌, refl, sym, ◌∙◌, ap, subst}
use Rattle.wy_text.specs.declared.fault.Fault.{Fault}
use Rattle.wy_text.specs.declared.limit.LimitName.{LimitName}
use Rattle.wy_text.specs.declared.limit.LimitName.TheVariants as limit
use Rattle.wy_syntax.specs.Trees.{ItemTree}
use Rattle.wy_text.specs.Members.{In}
use Rattle.wy_heads.specs.Counts.{first_passed, limits, passes}
use Rattle.wy_symbols.specs.Declarations.{Declared, all_items, declared}
use Rattle.wy_names.specs.Names.{Refused}
use Rattle.wy_names.specs.declared.refusal.NameRefusal.{NameRefusal}
use Rattle.wy_names.specs.declared.refusal.NameRefusal.TheVariants as refusal
use Rattle.wy_names.proofs.OneAnswer.{one_refusal, resolved_or_refused}
use Rattle.wy_engine.specs.FileTrees.{HaveTrees}
use Rattle.wy_engine.specs.Judgement.{Stage, StopsTexts, judging, lowering, naming, parsing}
use Rattle.wy_engine.specs.NameFaults.{NamesResolve, NamesStop, names_status}
use Rattle.wy_engine.specs.declared.status.Status.{Status}
use Rattle.wy_engine.specs.declared.status.Status.TheVariants as status
use Rattle.wy_engine.proofs.OneTree.{same_trees}

not_starved : (end : Status) (why : NameRefusal) → end ≡ names_status why → end ≢ status.Memory → why ≢ refusal.Memory
not_starved end why gives full is = full (gives ∙ ap names_status is)

pub one_names_stop : (texts : List (List ℕ)) (end other : Status) → NamesStop texts end → NamesStop texts other → end ≢ status.Memory → other ≢ status.Memory → end ≡ other
one_names_stop texts end other a b full full' =
    let trees : b.trees ≡ a.trees = same_trees 1 texts b.trees a.trees b.have a.have in
    let refused : Refused (all_items a.trees) b.why = subst (λ (ts : List (List ItemTree)). Refused (all_items ts) b.why) trees b.refused in
    let why : a.why ≡ b.why = one_refusal (all_items a.trees) a.why b.why a.refused refused (not_starved end a.why a.gives full) (not_starved other b.why b.gives full') in
    a.gives ∙ ap names_status why ∙ sym b.gives

pub resolve_or_stop : (texts : List (List ℕ)) (trees : List (List ItemTree)) (end : Status) → HaveTrees 1 texts trees → NamesResolve trees → NamesStop texts end → end ≢ status.Memory → ⊥
resolve_or_stop texts trees end have names stop full =
    let same : stop.trees ≡ trees = same_trees 1 texts stop.trees trees stop.have have in
    let refused : Refused (all_items trees) stop.why = subst (λ (ts : List (List ItemTree)). Refused (all_items ts) stop.why) same stop.refused in
    not_starved end stop.why stop.gives full (resolved_or_refused (all_items trees) names.program stop.why names.resolves refused)

-- whether names are judged so far
abbrev pub JudgesNames : Stage → Type 0
JudgesNames parsing = ⊥
JudgesNames naming = Unit {0}
JudgesNames judging = Unit {0}
JudgesNames lowering = Unit {0}

stops_refused : (stage : Stage) (texts : List (List ℕ)) (fault : Fault) → JudgesNames stage → NamesStop texts (status.Refused fault) → StopsTexts stage texts (status.Refused fault)
stops_refused parsing texts fault judges stop = absurd judges
stops_refused naming texts fault judges stop = stop
stops_refused judging texts fault judges stop = inl stop
stops_refused lowering texts fault judges stop = inl stop

stops_limit : (stage : Stage) (texts : List (List ℕ)) (name : LimitName) → JudgesNames stage → NamesStop texts (status.Limit name) → StopsTexts stage texts (status.Limit name)
stops_limit parsing texts name judges stop = absurd judges
stops_limit naming texts name judges stop = inr stop
stops_limit judging texts name judges stop = inl (inr stop)
stops_limit lowering texts name judges stop = inl (inl (inr stop))

-- what a refusal of names gives stops a call that judges them, but for want of memory
stops_by_names : (stage : Stage) (texts : List (List ℕ)) (why : NameRefusal) → JudgesNames stage → NamesStop texts (names_status why) → (names_status why ≡ status.Memory) ⊎ StopsTexts stage texts (names_status why)
stops_by_names stage texts (refusal.Unknown place) judges stop = inr (stops_refused stage texts _ judges stop)
stops_by_names stage texts (refusal.Twice place) judges stop = inr (stops_refused stage texts _ judges stop)
stops_by_names stage texts (refusal.Cycle place) judges stop = inr (stops_refused stage texts _ judges stop)
stops_by_names stage texts refusal.NoProgram judges stop = inr (stops_refused stage texts _ judges stop)
stops_by_names stage texts (refusal.TwoPrograms place) judges stop = inr (stops_refused stage texts _ judges stop)
stops_by_names stage texts (refusal.MemberUndefined place) judges stop = inr (stops_refused stage texts _ judges stop)
stops_by_names stage texts (refusal.MemberUnknown place) judges stop = inr (stops_refused stage texts _ judges stop)
stops_by_names stage texts (refusal.Limit name) judges stop = inr (stops_limit stage texts name judges stop)
stops_by_names stage texts refusal.Memory judges stop = inl refl

pub names_stop : (stage : Stage) (texts : List (List ℕ)) (trees : List (List ItemTree)) (why : NameRefusal) (end : Status) → JudgesNames stage → HaveTrees 1 texts trees → Refused (all_items trees) why
    → end ≡ names_status why → (end ≡ status.Memory) ⊎ StopsTexts stage texts end
names_stop stage texts trees why end judges have is gives =
    subst (λ (s : Status). (s ≡ status.Memory) ⊎ StopsTexts stage texts s) (sym gives)
    (stops_by_names stage texts why judges (record { trees = trees; have = have; why = why; refused = is; gives = refl }))

-- and so it does where it is given
pub stops_names : (stage : Stage) (texts : List (List ℕ)) (end : Status) → JudgesNames stage → NamesStop texts end → end ≢ status.Memory → StopsTexts stage texts end
stops_names stage texts end judges stop full =
    elim (names_stop stage texts stop.trees stop.why end judges stop.have stop.refused stop.gives) [ inl is ↦ absurd (full is) | inr stops ↦ stops ]

-- ---- the limit on files is not one of names

listed : (ls : List LimitName) (d : Declared) (name : LimitName) → first_passed ls d ≡ Some name → In name ls
listed [] d name is = cc
listed (l ∷ ls) d name is =
    let P : Bool → Type 0 = λ b. (if b then Some l else first_passed ls d) ≡ Some name → In name (l ∷ ls) in
    (elim (passes l d) as P [ true ↦ λ e. inl cc | false ↦ λ e. inr (listed ls d name e) ]) is

no_files : In limit.Files limits → ⊥
no_files (inl e) = cc
no_files (inr (inl e)) = cc
no_files (inr (inr (inl e))) = cc
no_files (inr (inr (inr (inl e)))) = cc
no_files (inr (inr (inr (inr (inl e))))) = cc
no_files (inr (inr (inr (inr (inr (inl e)))))) = cc
no_files (inr (inr (inr (inr (inr (inr (inl e))))))) = cc
no_files (inr (inr (inr (inr (inr (inr (inr e))))))) = absurd e

not_files : (items : List ItemTree) (why : NameRefusal) → Refused items why → status.Limit limit.Files ≡ names_status why → ⊥
not_files items (refusal.Unknown place) is gives = cc
not_files items (refusal.Twice place) is gives = cc
not_files items (refusal.Cycle place) is gives = cc
not_files items refusal.NoProgram is gives = cc
not_files items (refusal.TwoPrograms place) is gives = cc
not_files items (refusal.MemberUndefined place) is gives = cc
not_files items (refusal.MemberUnknown place) is gives = cc
not_files items (refusal.Limit name) is gives = let e : name ≡ limit.Files = cc in no_files (listed limits (declared items) limit.Files (is ∙ ap (λ (l : LimitName). Some l) e))
not_files items refusal.Memory is gives = cc

pub uncrowded : (texts : List (List ℕ)) → NamesStop texts (status.Limit limit.Files) → ⊥
uncrowded texts stop = not_files (all_items stop.trees) stop.why stop.refused stop.gives
