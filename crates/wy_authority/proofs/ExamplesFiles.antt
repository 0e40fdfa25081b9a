-- The report of a program with a pure module that a module and the program use, a logger, and a plain module:
--
-- type Logger
--   effect Log
--   def log(t: String): {Log} Unit
-- type Names
--   def safe(t: String): {} String
-- type Taker
--   effect Got
--   def got(t: String): {Got} Unit
-- type Report
--   effect All
--   def each(s: Taker[Got = {All}]): {All} Unit
-- module clean: Names
--   def safe(t: String): {} String
--     ..
-- resource module logger(disk: Folder): Logger
--   use clean
--   effect Log = {disk.Append}
--   def log(t: String): {Log} Unit = disk.append("log", clean.safe(t) ++ "\n")
-- plain module report(l: Logger, d: Folder): Report
--   var last: String = ""
--   def each(s: Taker): Unit
--     ..
-- program
--   grant console: Console
--   grant data: Folder
--   grant logs: Folder
--   use clean
--   instance lg = logger(logs)
--   import rep = report(lg, data) at {lg.Log, data.Read, data.Write, data.Append, data.List, console.Out}
--   run: {lg.Log, data.Read, data.Write, data.Append, data.List, console.Out}
--     val s = new
--       def got(t: String): {console.Out} Unit = console.write(clean.safe(t))
--     rep.each(s)
--     lg.log("done")
use Rattle.std.proofs.Common.{◌≡◌, ℕ, List, [], ◌∷◌, map, refl, true, false}
use Rattle.std.specs.Prelude.{codes, ◌++◌}
use Rattle.std.specs.Fmt.{digits}
use Rattle.wy_types.specs.declared.types.TypeRef.TheVariants.{Text, Unit as Nothing, Named, At}
use Rattle.wy_types.specs.declared.resolved.TypeDecl.{TypeDecl}
use Rattle.wy_types.specs.declared.resolved.Origin.TheVariants.{Parameter, Grant, Use, Instance, Import}
use Rattle.wy_types.specs.declared.resolved.ScopeKind.TheVariants as kind
use Rattle.wy_types.specs.declared.linked.Actual.TheVariants as actual
use Rattle.wy_types.specs.declared.linked.Instance.{Instance as Started}
use Rattle.wy_types.specs.Program.{Program, Scope}
use Rattle.wy_types.specs.Ground.{start_list}
use Rattle.wy_authority.specs.Authority.{authority_of}
use Rattle.wy_authority.specs.Report.{report_text}
use Rattle.wy_authority.proofs.Sources.{method, declaration, own, body, atoms_of, folder_members, console_members, folder_from, console_from, module_of, main_of, program, logger_type}

names_type : TypeDecl
names_type = declaration (codes "Names") [] (method (codes "safe") (Text ∷ []) [] Text ∷ [])

taker_type : TypeDecl
taker_type = declaration (codes "Taker") (codes "Got" ∷ []) (method (codes "got") (Text ∷ []) (0 ∷ []) Nothing ∷ [])

report_type : TypeDecl
report_type = declaration (codes "Report") (codes "All" ∷ []) (method (codes "each") (Named 7 ((0 ∷ []) ∷ []) ∷ []) (0 ∷ []) Nothing ∷ [])

clean : Scope
clean = module_of kind.Pure (codes "clean") [] [] 5 [] (body 0 (codes "safe") [] ∷ [])

logger : Scope
logger =
    module_of kind.Resource (codes "logger") (atoms_of (codes "disk") folder_members)
    (own (codes "disk") (folder_from 0 1 2 3) (Parameter true) ∷ own (codes "clean") (Named 6 []) (Use 0) ∷ [])
    4 ((2 ∷ []) ∷ []) (body 0 (codes "log") (2 ∷ []) ∷ [])

reporter : Scope
reporter =
    module_of kind.Plain (codes "report") []
    (own (codes "l") (Named 5 []) (Parameter false) ∷ own (codes "d") (Named 1 []) (Parameter false) ∷ [])
    7 [] (body 0 (codes "each") [] ∷ [])

bound : List ℕ
bound = 1 ∷ 2 ∷ 3 ∷ 4 ∷ 5 ∷ 10 ∷ []

main : Scope
unfolding bound
main =
    main_of
    (atoms_of (codes "console") console_members ++ (atoms_of (codes "data") folder_members ++ (atoms_of (codes "logs") folder_members ++ atoms_of (codes "lg") (codes "Log" ∷ []))))
    (own (codes "console") (console_from 0 1) Grant ∷
    own (codes "data") (folder_from 2 3 4 5) Grant ∷
    own (codes "logs") (folder_from 6 7 8 9) Grant ∷
    own (codes "clean") (Named 6 []) (Use 0) ∷
    own (codes "lg") (Named 5 ((10 ∷ []) ∷ [])) (Instance 1 (2 ∷ [])) ∷
    own (codes "rep") (At 8 bound) (Import 2 (4 ∷ 1 ∷ []) bound) ∷ [])
    bound (body 1 (codes "got") (1 ∷ []) ∷ [])

three_files : Program
three_files = program (logger_type ∷ names_type ∷ taker_type ∷ report_type ∷ []) (clean ∷ logger ∷ reporter ∷ main ∷ [])

all_lines : List ℕ
all_lines = codes "console.Out, data.Read, data.Write, data.Append, data.List, logs.Append\n"

three_files_report : report_text (authority_of three_files) ≡
    codes "authority of pure clean: -\n  init: -\n  safe: -\n" ++
    (codes "authority of lg: logs.Append\n  init: -\n  log: logs.Append\n" ++
    (codes "authority of rep: " ++ (all_lines ++ (codes "  init: " ++ (all_lines ++ (codes "  each: " ++ (all_lines ++
    (codes "authority of main: " ++ (all_lines ++ (codes "  run: " ++ (all_lines ++
    codes "  new1.got: console.Out\n")))))))))))
unfolding three_files names_type taker_type report_type clean logger reporter bound main all_lines digits
three_files_report = refl

-- the logger's use of the pure module is handed the one instance that the program's use has started
three_files_arguments : map (λ (i : Started). i.arguments) (start_list three_files) ≡
    [] ∷ (actual.Grant 2 ∷ actual.Instance 0 ∷ []) ∷ (actual.Instance 1 ∷ actual.Grant 1 ∷ []) ∷ []
unfolding three_files names_type taker_type report_type clean logger reporter bound main
three_files_arguments = refl
