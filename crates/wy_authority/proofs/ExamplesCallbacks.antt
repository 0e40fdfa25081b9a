-- The report of a program that hands callbacks to unannotated code:
--
-- type Handler
--   effect Fire
--   def fire(t: String): {Fire} Unit
-- type Plug
--   effect Use
--   def keep(h: Handler[Fire = {Use}]): {Use} Unit
--   def go(): {Use} Unit
-- resource module app(disk: Folder): Handler
--   effect Fire = {disk.Append}
--   def fire(t: String): {Fire} Unit = disk.append("f", t)
-- plain module plug(first: Handler): Plug
--   var h: Handler = first
--   def keep(n: Handler): Unit
--     h = n
--   def go(): Unit = h.fire("go")
-- program
--   grant disk: Folder
--   instance a = app(disk)
--   import p = plug(a) at {a.Fire, disk.Append}
--   run: {a.Fire, disk.Append}
--     p.go()
--     val n = new
--       def fire(t: String): {disk.Append} Unit = disk.append("g", t)
--     p.keep(n)
--     p.go()
use Rattle.std.proofs.Common.{◌≡◌, [], ◌∷◌, refl, true, false}
use Rattle.std.specs.Prelude.{codes, ◌++◌}
use Rattle.std.specs.Fmt.{digits}
use Rattle.wy_types.specs.declared.types.TypeRef.TheVariants.{Text, Unit as Nothing, Named, At}
use Rattle.wy_types.specs.declared.resolved.TypeDecl.{TypeDecl}
use Rattle.wy_types.specs.declared.resolved.Origin.TheVariants.{Parameter, Grant, Instance, Import}
use Rattle.wy_types.specs.declared.resolved.ScopeKind.TheVariants as kind
use Rattle.wy_types.specs.Program.{Program, Scope}
use Rattle.wy_authority.specs.Authority.{authority_of}
use Rattle.wy_authority.specs.Report.{report_text}
use Rattle.wy_authority.proofs.Sources.{method, declaration, own, body, atoms_of, folder_members, folder_from, module_of, main_of, program}

handler_type : TypeDecl
handler_type = declaration (codes "Handler") (codes "Fire" ∷ []) (method (codes "fire") (Text ∷ []) (0 ∷ []) Nothing ∷ [])

plug_type : TypeDecl
plug_type =
    declaration (codes "Plug") (codes "Use" ∷ [])
    (method (codes "keep") (Named 5 ((0 ∷ []) ∷ []) ∷ []) (0 ∷ []) Nothing ∷ method (codes "go") [] (0 ∷ []) Nothing ∷ [])

app : Scope
app =
    module_of kind.Resource (codes "app") (atoms_of (codes "disk") folder_members)
    (own (codes "disk") (folder_from 0 1 2 3) (Parameter true) ∷ [])
    4 ((2 ∷ []) ∷ []) (body 0 (codes "fire") (2 ∷ []) ∷ [])

plug : Scope
plug =
    module_of kind.Plain (codes "plug") [] (own (codes "first") (Named 5 []) (Parameter false) ∷ [])
    5 [] (body 0 (codes "keep") [] ∷ body 0 (codes "go") [] ∷ [])

with_plug : Program
with_plug =
    program (handler_type ∷ plug_type ∷ [])
    (app ∷ plug ∷
    main_of (atoms_of (codes "disk") folder_members ++ atoms_of (codes "a") (codes "Fire" ∷ []))
    (own (codes "disk") (folder_from 0 1 2 3) Grant ∷
    own (codes "a") (Named 5 ((4 ∷ []) ∷ [])) (Instance 0 (0 ∷ [])) ∷
    own (codes "p") (At 6 (2 ∷ 4 ∷ [])) (Import 1 (1 ∷ []) (2 ∷ 4 ∷ [])) ∷ [])
    (2 ∷ 4 ∷ []) (body 1 (codes "fire") (2 ∷ []) ∷ []) ∷ [])

-- of the plain module's instance each body has the ground of the bound, in which `a.Fire` and `disk.Append` are one atom
plug_report : report_text (authority_of with_plug) ≡
    codes "authority of a: disk.Append\n  init: -\n  fire: disk.Append\n" ++
    (codes "authority of p: disk.Append\n  init: disk.Append\n  keep: disk.Append\n  go: disk.Append\n" ++
    codes "authority of main: disk.Append\n  run: disk.Append\n  new1.fire: disk.Append\n")
unfolding with_plug handler_type plug_type app plug digits
plug_report = refl
