-- The settings that words give, tried on examples.
use Rattle.std.proofs.Common.{codes, ◌≡◌, ℕ, List, [], ◌∷◌, Some, None, false, refl, true}
use Rattle.clap.proofs.OnLiterals.{clap_on_literals}
use Rattle.wy_layout.specs.Identifiers.{is_identifier}
use Rattle.wy_settings.specs.Folders.{folder_in, folders_after}
use Rattle.wy_settings.specs.Settings.{Settings, most_depth, settings_of, texts_among, usual_depth, usual_steps}
use Rattle.wy_settings.specs.declared.command_line.Command.{Command}
use Rattle.wy_settings.specs.declared.command_line.Command.TheVariants as command

-- settings with the usual bounds
abbrev usual : Command → List (List ℕ) → Settings
usual named files = record { command = named; steps = usual_steps; depth = usual_depth; folders = []; files = files }

one_file : settings_of (codes "run" ∷ codes "b.wy" ∷ []) ≡ Some (usual command.Run (codes "b.wy" ∷ []))
unfolding clap_on_literals
one_file = refl

two_files : settings_of (codes "check" ∷ codes "a.wy" ∷ codes "b.wy" ∷ []) ≡ Some (usual command.Check (codes "a.wy" ∷ codes "b.wy" ∷ []))
unfolding clap_on_literals
two_files = refl

authority_words : settings_of (codes "authority" ∷ codes "a.wy" ∷ []) ≡ Some (usual command.Authority (codes "a.wy" ∷ []))
unfolding clap_on_literals
authority_words = refl

format_words : settings_of (codes "format" ∷ codes "b.wy" ∷ []) ≡ Some (usual command.Format (codes "b.wy" ∷ []))
unfolding clap_on_literals
format_words = refl

two_formats : settings_of (codes "format" ∷ codes "a.wy" ∷ codes "b.wy" ∷ []) ≡ None
unfolding clap_on_literals
two_formats = refl

policy_words : settings_of (codes "policy" ∷ codes "p.pol" ∷ codes "a.wy" ∷ []) ≡ Some (usual command.Policy (codes "p.pol" ∷ codes "a.wy" ∷ []))
unfolding clap_on_literals
policy_words = refl

policy_texts : texts_among command.Policy (codes "p.pol" ∷ codes "a.wy" ∷ []) ≡ codes "a.wy" ∷ []
policy_texts = refl

one_policy : settings_of (codes "policy" ∷ codes "p.pol" ∷ []) ≡ None
unfolding clap_on_literals
one_policy = refl

observe_words : settings_of (codes "observe" ∷ codes "a.wy" ∷ codes "--depth" ∷ codes "9" ∷ codes "b.wy" ∷ [])
    ≡ Some (record { command = command.Observe; steps = usual_steps; depth = 9; folders = []; files = codes "a.wy" ∷ codes "b.wy" ∷ [] })
unfolding clap_on_literals
observe_words = refl

observe_texts : texts_among command.Observe (codes "a.wy" ∷ codes "b.wy" ∷ []) ≡ codes "a.wy" ∷ codes "b.wy" ∷ []
observe_texts = refl

no_observed : settings_of (codes "observe" ∷ []) ≡ None
unfolding clap_on_literals
no_observed = refl

certify_words : settings_of (codes "certify" ∷ codes "a.wy" ∷ []) ≡ Some (usual command.Certify (codes "a.wy" ∷ []))
unfolding clap_on_literals
certify_words = refl

recheck_words : settings_of (codes "recheck" ∷ codes "c" ∷ codes "a.wy" ∷ []) ≡ Some (usual command.Recheck (codes "c" ∷ codes "a.wy" ∷ []))
unfolding clap_on_literals
recheck_words = refl

recheck_texts : texts_among command.Recheck (codes "c" ∷ codes "a.wy" ∷ []) ≡ codes "a.wy" ∷ []
recheck_texts = refl

one_certificate : settings_of (codes "recheck" ∷ codes "c" ∷ []) ≡ None
unfolding clap_on_literals
one_certificate = refl

no_words : settings_of [] ≡ None
unfolding clap_on_literals
no_words = refl

no_files : settings_of (codes "run" ∷ []) ≡ None
unfolding clap_on_literals
no_files = refl

other_words : settings_of (codes "walk" ∷ codes "b.wy" ∷ []) ≡ None
unfolding clap_on_literals
other_words = refl

no_help : settings_of (codes "run" ∷ codes "--help" ∷ codes "b.wy" ∷ []) ≡ None
unfolding clap_on_literals
no_help = refl

-- ---- options stand anywhere, with their number in the next word or behind an equals sign

few_steps : settings_of (codes "run" ∷ codes "--steps" ∷ codes "9" ∷ codes "a.wy" ∷ []) ≡ Some (record { command = command.Run; steps = 9; depth = usual_depth; folders = []; files = codes "a.wy" ∷ [] })
unfolding clap_on_literals
few_steps = refl

options_last : settings_of (codes "run" ∷ codes "a.wy" ∷ codes "--depth=0" ∷ codes "b.wy" ∷ codes "--steps=0000000012345" ∷ [])
    ≡ Some (record { command = command.Run; steps = 12345; depth = 0; folders = []; files = codes "a.wy" ∷ codes "b.wy" ∷ [] })
unfolding clap_on_literals
options_last = refl

option_first : settings_of (codes "--depth" ∷ codes "100000" ∷ codes "check" ∷ codes "a.wy" ∷ []) ≡ Some (record { command = command.Check; steps = usual_steps; depth = most_depth; folders = []; files = codes "a.wy" ∷ [] })
unfolding clap_on_literals
option_first = refl

option_twice : settings_of (codes "run" ∷ codes "--steps" ∷ codes "1" ∷ codes "--steps" ∷ codes "1" ∷ codes "a.wy" ∷ []) ≡ None
unfolding clap_on_literals
option_twice = refl

other_option : settings_of (codes "run" ∷ codes "a.wy" ∷ codes "-b.wy" ∷ []) ≡ None
unfolding clap_on_literals
other_option = refl

-- ---- a dash alone is a file, and so is all that stands behind two

dashes : settings_of (codes "run" ∷ codes "-" ∷ codes "--" ∷ codes "-b.wy" ∷ codes "--steps" ∷ []) ≡ Some (usual command.Run (codes "-" ∷ codes "-b.wy" ∷ codes "--steps" ∷ []))
unfolding clap_on_literals
dashes = refl

-- ---- numbers

too_deep : settings_of (codes "run" ∷ codes "--depth" ∷ codes "100001" ∷ codes "a.wy" ∷ []) ≡ None
unfolding clap_on_literals
too_deep = refl

too_many_steps : settings_of (codes "run" ∷ codes "--steps" ∷ codes "1000000000001" ∷ codes "a.wy" ∷ []) ≡ None
unfolding clap_on_literals
too_many_steps = refl

fourteen_digits : settings_of (codes "run" ∷ codes "--steps" ∷ codes "00000000000001" ∷ codes "a.wy" ∷ []) ≡ None
unfolding clap_on_literals
fourteen_digits = refl

no_numeral : settings_of (codes "run" ∷ codes "--steps" ∷ codes "+1" ∷ codes "a.wy" ∷ []) ≡ None
unfolding clap_on_literals
no_numeral = refl

no_number : settings_of (codes "run" ∷ codes "a.wy" ∷ codes "--steps" ∷ []) ≡ None
unfolding clap_on_literals
no_number = refl

-- ---- folders of grants; that a word is a name does not compute here

-- what a word gives, if what comes before its first equals sign is a name
given_path : is_identifier (codes "disk") ≡ true → folder_in (codes "disk=/tmp/a=b") ≡ Some (record { grant = codes "disk"; path = codes "/tmp/a=b" })
given_path is = rw is refl

reserved_word : is_identifier (codes "new") ≡ false → folder_in (codes "new=a") ≡ None
reserved_word is = rw is refl

given_twice : is_identifier (codes "disk") ≡ true → folders_after [] (codes "disk=a" ∷ codes "disk=b" ∷ []) ≡ None
given_twice is = rw is refl

no_path : settings_of (codes "check" ∷ codes "--folder" ∷ codes "disk=" ∷ codes "a.wy" ∷ []) ≡ None
unfolding clap_on_literals
no_path = refl

no_sign : settings_of (codes "check" ∷ codes "a.wy" ∷ codes "--folder=disk" ∷ []) ≡ None
unfolding clap_on_literals
no_sign = refl

-- ---- the number of a sample

sample_words : settings_of (codes "sample" ∷ codes "200" ∷ []) ≡ Some (usual command.Sample (codes "200" ∷ []))
unfolding clap_on_literals
sample_words = refl

sample_zero : settings_of (codes "sample" ∷ codes "0" ∷ []) ≡ None
unfolding clap_on_literals
sample_zero = refl

sample_past : settings_of (codes "sample" ∷ codes "201" ∷ []) ≡ None
unfolding clap_on_literals
sample_past = refl

two_samples : settings_of (codes "sample" ∷ codes "1" ∷ codes "2" ∷ []) ≡ None
unfolding clap_on_literals
two_samples = refl

sample_of_a_file : settings_of (codes "sample" ∷ codes "a.wy" ∷ []) ≡ None
unfolding clap_on_literals
sample_of_a_file = refl
