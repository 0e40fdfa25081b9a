-- Reports of programs whose lines stand in the program alone, and the start list of one with a line inside a module.
use Rattle.std.proofs.Common.{◌≡◌, [], ◌∷◌, map, refl, true, None}
use Rattle.std.specs.Prelude.{codes, ◌++◌}
use Rattle.std.specs.Fmt.{digits}
use Rattle.wy_types.specs.declared.types.TypeRef.TheVariants.{Text, Unit as Nothing, Named, At}
use Rattle.wy_types.specs.declared.resolved.TypeDecl.{TypeDecl}
use Rattle.wy_types.specs.declared.resolved.Origin.TheVariants.{Parameter, Grant, Use, Instance, Import}
use Rattle.wy_types.specs.declared.resolved.ScopeKind.TheVariants as kind
use Rattle.wy_types.specs.declared.linked.Actual.TheVariants as actual
use Rattle.wy_types.specs.declared.linked.Instance.{Instance as Started}
use Rattle.wy_types.specs.Program.{Program, Scope}
use Rattle.wy_types.specs.Ground.{start_list}
use Rattle.wy_authority.specs.Authority.{authority_of, bound_of}
use Rattle.wy_authority.specs.Report.{report_text}
use Rattle.wy_authority.proofs.Sources.{method, declaration, own, body, atoms_of, folder_members, folder_from, module_of, main_of, program, logger_type}

------------------------------------------------------------
-- resource module logger(disk: Folder): Logger
--   effect Log = {disk.Append}
--   def log(t: String): {Log} Unit = disk.append("log", t)
-- program
--   grant disk: Folder
--   instance lg = logger(disk)
--   run: {lg.Log}
--     lg.log("a")

logger : Scope
logger =
    module_of kind.Resource (codes "logger") (atoms_of (codes "disk") folder_members)
    (own (codes "disk") (folder_from 0 1 2 3) (Parameter true) ∷ [])
    4 ((2 ∷ []) ∷ []) (body 0 (codes "log") (2 ∷ []) ∷ [])

with_logger : Program
with_logger =
    program (logger_type ∷ [])
    (logger ∷
    main_of (atoms_of (codes "disk") folder_members ++ atoms_of (codes "lg") (codes "Log" ∷ []))
    (own (codes "disk") (folder_from 0 1 2 3) Grant ∷ own (codes "lg") (Named 5 ((4 ∷ []) ∷ [])) (Instance 0 (0 ∷ [])) ∷ [])
    (4 ∷ []) [] ∷ [])

logger_report : report_text (authority_of with_logger) ≡
    codes "authority of lg: disk.Append\n  init: -\n  log: disk.Append\n" ++
    codes "authority of main: disk.Append\n  run: disk.Append\n"
unfolding with_logger logger
logger_report = refl

-- the module's atom `disk.Append` is the grant's
logger_starts : start_list with_logger ≡
    (let i : Started = record { name = codes "lg"; scope = 0; arguments = actual.Grant 0 ∷ []; bound = None; ground = (0 ∷ []) ∷ (1 ∷ []) ∷ (2 ∷ []) ∷ (3 ∷ []) ∷ [] } in i ∷ [])
unfolding with_logger logger
logger_starts = refl

------------------------------------------------------------
-- resource module readonly(d: Folder): Folder
--   effect Read = {d.Read}
--   effect Write = {}
--   effect Append = {}
--   effect List = {d.List}
--   ..
-- program
--   grant disk: Folder
--   instance ro = readonly(disk)
--   run: {ro.Write, ro.Read}

readonly : Scope
readonly =
    module_of kind.Resource (codes "readonly") (atoms_of (codes "d") folder_members)
    (own (codes "d") (folder_from 0 1 2 3) (Parameter true) ∷ [])
    1 ((0 ∷ []) ∷ [] ∷ [] ∷ (3 ∷ []) ∷ [])
    (body 0 (codes "read") (0 ∷ []) ∷ body 0 (codes "has") (0 ∷ []) ∷ body 0 (codes "write") [] ∷ body 0 (codes "append") [] ∷ body 0 (codes "names") (3 ∷ []) ∷ [])

with_readonly : Program
with_readonly =
    program []
    (readonly ∷
    main_of (atoms_of (codes "disk") folder_members ++ atoms_of (codes "ro") folder_members)
    (own (codes "disk") (folder_from 0 1 2 3) Grant ∷ own (codes "ro") (folder_from 4 5 6 7) (Instance 0 (0 ∷ [])) ∷ [])
    (4 ∷ 5 ∷ []) [] ∷ [])

readonly_report : report_text (authority_of with_readonly) ≡
    codes "authority of ro: disk.Read, disk.List\n  init: -\n  read: disk.Read\n  has: disk.Read\n" ++
    (codes "  write: -\n  append: -\n  names: disk.List\n" ++
    codes "authority of main: disk.Read\n  run: disk.Read\n")
unfolding with_readonly readonly
readonly_report = refl

------------------------------------------------------------
-- type Item
--   effect Put
--   def put(t: String): {Put} Unit
-- type Maker
--   effect Put
--   def make(): {} Item[Put = {Put}]
-- resource module maker(disk: Folder): Maker
--   effect Put = {disk.Append}
--   def make(): {} Item[Put = {Put}]
--     new
--       def put(t: String): {Put} Unit = disk.append("i", t)
-- program
--   grant disk: Folder
--   instance m = maker(disk)
--   run: {m.Put}
--     m.make().put("z")

maker : Scope
maker =
    module_of kind.Resource (codes "maker") (atoms_of (codes "disk") folder_members)
    (own (codes "disk") (folder_from 0 1 2 3) (Parameter true) ∷ [])
    5 ((2 ∷ []) ∷ []) (body 0 (codes "make") [] ∷ body 1 (codes "put") (2 ∷ []) ∷ [])

with_maker : Program
with_maker =
    program
    (declaration (codes "Item") (codes "Put" ∷ []) (method (codes "put") (Text ∷ []) (0 ∷ []) Nothing ∷ []) ∷
    declaration (codes "Maker") (codes "Put" ∷ []) (method (codes "make") [] [] (Named 5 ((0 ∷ []) ∷ [])) ∷ []) ∷ [])
    (maker ∷
    main_of (atoms_of (codes "disk") folder_members ++ atoms_of (codes "m") (codes "Put" ∷ []))
    (own (codes "disk") (folder_from 0 1 2 3) Grant ∷ own (codes "m") (Named 6 ((4 ∷ []) ∷ [])) (Instance 0 (0 ∷ [])) ∷ [])
    (4 ∷ []) [] ∷ [])

-- the method of the object that leaves its module has a line of its own
maker_report : report_text (authority_of with_maker) ≡
    codes "authority of m: disk.Append\n  init: -\n  make: -\n  new1.put: disk.Append\n" ++
    codes "authority of main: disk.Append\n  run: disk.Append\n"
unfolding with_maker maker digits
maker_report = refl

-- the second instance row is main's, and its first body `run`
maker_bound : bound_of (authority_of with_maker) 1 0 ≡ 2 ∷ []
unfolding with_maker maker digits
maker_bound = refl

------------------------------------------------------------
-- An argument's member may be a defined one of its type, and a type at a bound has every member:
--
-- type Both
--   effect Read
--   effect Log = {Read}
-- resource module both(d: Folder): Both
--   effect Read = {d.Write}
-- plain module plug(): Logger
-- resource module two(l: Logger, m: Logger): Logger
--   effect Log = {l.Log, m.Log}
-- program
--   grant x: Folder
--   instance b = both(x)
--   import i = plug() at {x.Read}
--   instance t = two(b, i)
--   run: {t.Log}

both_type : TypeDecl
both_type = record { name = codes "Both"; members = codes "Read" ∷ []; bounds = None ∷ []; defined = record { name = codes "Log"; effects = 0 ∷ [] } ∷ []; methods = [] }

two : Scope
two =
    module_of kind.Resource (codes "two") (atoms_of (codes "l") (codes "Log" ∷ []) ++ atoms_of (codes "m") (codes "Log" ∷ []))
    (own (codes "l") (Named 5 ((0 ∷ []) ∷ [])) (Parameter true) ∷ own (codes "m") (Named 5 ((1 ∷ []) ∷ [])) (Parameter true) ∷ [])
    4 ((0 ∷ 1 ∷ []) ∷ []) (body 0 (codes "log") (0 ∷ 1 ∷ []) ∷ [])

with_two : Program
with_two =
    program (logger_type ∷ both_type ∷ [])
    (module_of kind.Resource (codes "both") (atoms_of (codes "d") folder_members) (own (codes "d") (folder_from 0 1 2 3) (Parameter true) ∷ []) 5 ((1 ∷ []) ∷ []) [] ∷
    module_of kind.Plain (codes "plug") [] [] 4 [] [] ∷
    two ∷
    main_of (atoms_of (codes "x") folder_members ++ (atoms_of (codes "b") (codes "Read" ∷ []) ++ atoms_of (codes "t") (codes "Log" ∷ [])))
    (own (codes "x") (folder_from 0 1 2 3) Grant ∷
    own (codes "b") (Named 6 ((4 ∷ []) ∷ [])) (Instance 0 (0 ∷ [])) ∷
    own (codes "i") (At 5 (0 ∷ [])) (Import 1 [] (0 ∷ [])) ∷
    own (codes "t") (Named 5 ((5 ∷ []) ∷ [])) (Instance 2 (1 ∷ 2 ∷ [])) ∷ [])
    (5 ∷ []) [] ∷ [])

-- `l.Log` stands for what `both` defines for Read, and `m.Log` for the bound
two_grounds : map (λ (i : Started). i.ground) (start_list with_two) ≡ ((0 ∷ []) ∷ (1 ∷ []) ∷ (2 ∷ []) ∷ (3 ∷ []) ∷ []) ∷ [] ∷ ((1 ∷ []) ∷ (0 ∷ []) ∷ []) ∷ []
unfolding with_two both_type two
two_grounds = refl

------------------------------------------------------------
-- A line inside a module makes an instance of its own for each instance of the module, before it:
--
-- resource module pair(a: Folder, b: Folder): Logger
--   instance one = logger(b)
--   effect Log = {one.Log, a.Read}
--   def log(t: String): {Log} Unit = ..
-- program
--   grant x: Folder
--   grant y: Folder
--   instance p = pair(x, y)
--   instance q = pair(y, x)
--   run: {q.Log}

pair : Scope
pair =
    module_of kind.Resource (codes "pair") (atoms_of (codes "a") folder_members ++ (atoms_of (codes "b") folder_members ++ atoms_of (codes "one") (codes "Log" ∷ [])))
    (own (codes "a") (folder_from 0 1 2 3) (Parameter true) ∷ own (codes "b") (folder_from 4 5 6 7) (Parameter true) ∷ own (codes "one") (Named 5 ((8 ∷ []) ∷ [])) (Instance 0 (1 ∷ [])) ∷ [])
    4 ((0 ∷ 8 ∷ []) ∷ []) (body 0 (codes "log") (0 ∷ 8 ∷ []) ∷ [])

with_pairs : Program
with_pairs =
    program (logger_type ∷ [])
    (logger ∷ pair ∷
    main_of (atoms_of (codes "x") folder_members ++ (atoms_of (codes "y") folder_members ++ (atoms_of (codes "p") (codes "Log" ∷ []) ++ atoms_of (codes "q") (codes "Log" ∷ []))))
    (own (codes "x") (folder_from 0 1 2 3) Grant ∷ own (codes "y") (folder_from 4 5 6 7) Grant ∷
    own (codes "p") (Named 5 ((8 ∷ []) ∷ [])) (Instance 1 (0 ∷ 1 ∷ [])) ∷ own (codes "q") (Named 5 ((9 ∷ []) ∷ [])) (Instance 1 (1 ∷ 0 ∷ [])) ∷ [])
    (9 ∷ []) [] ∷ [])

pairs_report : report_text (authority_of with_pairs) ≡
    codes "authority of p.one: y.Append\n  init: -\n  log: y.Append\nauthority of p: x.Read, y.Append\n  init: -\n  log: x.Read, y.Append\n" ++
    (codes "authority of q.one: x.Append\n  init: -\n  log: x.Append\nauthority of q: x.Append, y.Read\n  init: -\n  log: x.Append, y.Read\n" ++
    codes "authority of main: x.Append, y.Read\n  run: x.Append, y.Read\n")
unfolding with_pairs pair logger
pairs_report = refl

-- the hidden instance is handed what its line says, and is the last of what its module is handed
pairs_arguments : map (λ (i : Started). i.arguments) (start_list with_pairs) ≡
    (actual.Grant 1 ∷ []) ∷ (actual.Grant 0 ∷ actual.Grant 1 ∷ actual.Instance 0 ∷ []) ∷
    (actual.Grant 0 ∷ []) ∷ (actual.Grant 1 ∷ actual.Grant 0 ∷ actual.Instance 2 ∷ []) ∷ []
unfolding with_pairs pair logger
pairs_arguments = refl

------------------------------------------------------------
-- Lines inside the modules of lines, with one folder in both places:
--
-- resource module outer(a: Folder): Logger
--   instance in = pair(a, a)
--   effect Log = {in.Log}
-- program
--   grant x: Folder
--   instance o = outer(x)
--   run: {}

outer : Scope
outer =
    module_of kind.Resource (codes "outer") (atoms_of (codes "a") folder_members ++ atoms_of (codes "in") (codes "Log" ∷ []))
    (own (codes "a") (folder_from 0 1 2 3) (Parameter true) ∷ own (codes "in") (Named 5 ((4 ∷ []) ∷ [])) (Instance 1 (0 ∷ 0 ∷ [])) ∷ [])
    4 ((4 ∷ []) ∷ []) (body 0 (codes "log") (4 ∷ []) ∷ [])

with_outer : Program
with_outer =
    program (logger_type ∷ [])
    (logger ∷ pair ∷ outer ∷
    main_of (atoms_of (codes "x") folder_members ++ atoms_of (codes "o") (codes "Log" ∷ []))
    (own (codes "x") (folder_from 0 1 2 3) Grant ∷ own (codes "o") (Named 5 ((4 ∷ []) ∷ [])) (Instance 2 (0 ∷ [])) ∷ []) [] [] ∷ [])

outer_report : report_text (authority_of with_outer) ≡
    codes "authority of o.in.one: x.Append\n  init: -\n  log: x.Append\nauthority of o.in: x.Read, x.Append\n  init: -\n  log: x.Read, x.Append\n" ++
    codes "authority of o: x.Read, x.Append\n  init: -\n  log: x.Read, x.Append\nauthority of main: -\n  run: -\n"
unfolding with_outer outer pair logger
outer_report = refl

------------------------------------------------------------
-- The first use of a pure module starts it, wherever it stands, after the pure modules that it uses; later uses find it there:
--
-- module low: Logger
--   effect Log = {}
-- module high: Logger
--   use low
--   effect Log = {}
-- resource module user(): Logger
--   use high
--   effect Log = {high.Log}
-- program
--   instance u = user()
--   instance v = user()
--   run: {}

with_users : Program
with_users =
    program (logger_type ∷ [])
    (module_of kind.Pure (codes "low") [] [] 4 ([] ∷ []) [] ∷
    module_of kind.Pure (codes "high") (atoms_of (codes "low") (codes "Log" ∷ [])) (own (codes "low") (Named 5 ((0 ∷ []) ∷ [])) (Use 0) ∷ []) 4 ([] ∷ []) [] ∷
    module_of kind.Resource (codes "user") (atoms_of (codes "high") (codes "Log" ∷ [])) (own (codes "high") (Named 5 ((0 ∷ []) ∷ [])) (Use 1) ∷ []) 4 ((0 ∷ []) ∷ []) [] ∷
    main_of (atoms_of (codes "u") (codes "Log" ∷ []) ++ atoms_of (codes "v") (codes "Log" ∷ []))
    (own (codes "u") (Named 5 ((0 ∷ []) ∷ [])) (Instance 2 []) ∷ own (codes "v") (Named 5 ((1 ∷ []) ∷ [])) (Instance 2 []) ∷ []) [] [] ∷ [])

users_names : map (λ (i : Started). i.name) (start_list with_users) ≡ codes "pure low" ∷ codes "pure high" ∷ codes "u" ∷ codes "v" ∷ []
unfolding with_users
users_names = refl

users_arguments : map (λ (i : Started). i.arguments) (start_list with_users) ≡
    [] ∷ (actual.Instance 0 ∷ []) ∷ (actual.Instance 1 ∷ []) ∷ (actual.Instance 1 ∷ []) ∷ []
unfolding with_users
users_arguments = refl
