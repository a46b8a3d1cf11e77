-- The words that are listed are those that a call may have.
use Rattle.std.proofs.Common.{◌≡◌, ℕ, List, Bool, true, false, cond, refl, sym, Option, Some}
use Rattle.std.specs.Prelude.{◌||◌, is_some, codes}
use Rattle.std.specs.List.{list_any}
use Rattle.std.specs.Str.{bytes_eq}
use Rattle.planus_cli.specs.declared.arguments.Command.{Command}
use Rattle.planus_cli.specs.declared.arguments.Command.TheVariants.{Check, Format, View, Dot, Conform, Completions}
use Rattle.planus_cli.specs.declared.arguments.Command.TheVariants.{Rattle as RattleCommand}
use Rattle.planus_cli.specs.declared.arguments.Command.TheVariants.{Json as JsonCommand}
use Rattle.planus_cli.specs.declared.arguments.Command.TheVariants.{Binary}
use Rattle.planus_cli.specs.Arguments.{option_of, command_of}
use Rattle.planus_cli.specs.Completions.{option_words, names}

or_true : (a : Bool) → (a || true) ≡ true
or_true true = refl
or_true false = refl

-- whether a word is one of these is whether the first test, in some order, is passed
some_of : {T : Type 0} (t : Bool) (x : T) (o : Option T) → is_some (cond t (Some x) o) ≡ (t || is_some o)
some_of true x o = refl
some_of false x o = refl

move0 : (h k : Bool) → (h || (k || false)) ≡ ((h || k) || false)
move0 true k = refl
move0 false k = refl

move1 : (a h k : Bool) → (a || (h || (k || false))) ≡ ((h || k) || (a || false))
move1 true h k = sym (or_true (h || k))
move1 false h k = move0 h k

move2 : (a b h k : Bool) → (a || (b || (h || (k || false)))) ≡ ((h || k) || (a || (b || false)))
move2 true b h k = sym (or_true (h || k))
move2 false b h k = move1 b h k

move3 : (a b c h k : Bool) → (a || (b || (c || (h || (k || false))))) ≡ ((h || k) || (a || (b || (c || false))))
move3 true b c h k = sym (or_true (h || k))
move3 false b c h k = move2 b c h k

move4 : (a b c d h k : Bool) → (a || (b || (c || (d || (h || (k || false)))))) ≡ ((h || k) || (a || (b || (c || (d || false)))))
move4 true b c d h k = sym (or_true (h || k))
move4 false b c d h k = move3 b c d h k

move5 : (a b c d e h k : Bool) → (a || (b || (c || (d || (e || (h || (k || false))))))) ≡ ((h || k) || (a || (b || (c || (d || (e || false))))))
move5 true b c d e h k = sym (or_true (h || k))
move5 false b c d e h k = move4 b c d e h k

move6 : (a b c d e f h k : Bool) → (a || (b || (c || (d || (e || (f || (h || (k || false)))))))) ≡ ((h || k) || (a || (b || (c || (d || (e || (f || false)))))))
move6 true b c d e f h k = sym (or_true (h || k))
move6 false b c d e f h k = move5 b c d e f h k

move7 : (a b c d e f g h k : Bool) → (a || (b || (c || (d || (e || (f || (g || (h || (k || false))))))))) ≡ ((h || k) || (a || (b || (c || (d || (e || (f || (g || false))))))))
move7 true b c d e f g h k = sym (or_true (h || k))
move7 false b c d e f g h k = move6 b c d e f g h k

move8 : (a b c d e f g i h k : Bool) → (a || (b || (c || (d || (e || (f || (g || (i || (h || (k || false)))))))))) ≡ ((h || k) || (a || (b || (c || (d || (e || (f || (g || (i || false)))))))))
move8 true b c d e f g i h k = sym (or_true (h || k))
move8 false b c d e f g i h k = move7 b c d e f g i h k

move9 : (a b c d e f g i j h k : Bool) → (a || (b || (c || (d || (e || (f || (g || (i || (j || (h || (k || false))))))))))) ≡ ((h || k) || (a || (b || (c || (d || (e || (f || (g || (i || (j || false))))))))))
move9 true b c d e f g i j h k = sym (or_true (h || k))
move9 false b c d e f g i j h k = move8 b c d e f g i j h k

pub options_listed : (command : Command) (w : List ℕ) → list_any (bytes_eq w) (option_words command) ≡ is_some (option_of command w)
options_listed Check w = simp some_of (move1 (bytes_eq w (codes "-I")) (bytes_eq w (codes "--help")) (bytes_eq w (codes "-h")))
options_listed Format w = simp some_of (move2 (bytes_eq w (codes "--write")) (bytes_eq w (codes "--check")) (bytes_eq w (codes "--help")) (bytes_eq w (codes "-h")))
options_listed View w = simp some_of (move5 (bytes_eq w (codes "-I")) (bytes_eq w (codes "--root")) (bytes_eq w (codes "--size-prefixed")) (bytes_eq w (codes "--lines")) (bytes_eq w (codes "--bytes"))
    (bytes_eq w (codes "--help")) (bytes_eq w (codes "-h")))
options_listed JsonCommand w = simp some_of (move6 (bytes_eq w (codes "-I")) (bytes_eq w (codes "--root")) (bytes_eq w (codes "--size-prefixed")) (bytes_eq w (codes "--compact")) (bytes_eq w (codes "--strict"))
    (bytes_eq w (codes "--bytes")) (bytes_eq w (codes "--help")) (bytes_eq w (codes "-h")))
options_listed Binary w = simp some_of (move9 (bytes_eq w (codes "-I")) (bytes_eq w (codes "-o")) (bytes_eq w (codes "--root")) (bytes_eq w (codes "--size-prefixed")) (bytes_eq w (codes "--identifier")) (bytes_eq w (codes "--share")) (bytes_eq w (codes "--omit-defaults")) (bytes_eq w (codes "--skip-unknown")) (bytes_eq w (codes "--bytes")) (bytes_eq w (codes "--help")) (bytes_eq w (codes "-h")))
options_listed RattleCommand w = simp some_of (move5 (bytes_eq w (codes "-I")) (bytes_eq w (codes "-o")) (bytes_eq w (codes "--check")) (bytes_eq w (codes "--no-verified")) (bytes_eq w (codes "--c")) (bytes_eq w (codes "--help")) (bytes_eq w (codes "-h")))
options_listed Dot w = simp some_of (move1 (bytes_eq w (codes "-I")) (bytes_eq w (codes "--help")) (bytes_eq w (codes "-h")))
options_listed Conform w = simp some_of (move6 (bytes_eq w (codes "-I")) (bytes_eq w (codes "--backward")) (bytes_eq w (codes "--forward")) (bytes_eq w (codes "--rename")) (bytes_eq w (codes "--against")) (bytes_eq w (codes "--json")) (bytes_eq w (codes "--help")) (bytes_eq w (codes "-h")))
options_listed Completions w = simp some_of (move0 (bytes_eq w (codes "--help")) (bytes_eq w (codes "-h")))

last9 : (a b c d e f g h i j : Bool) → (a || (b || (c || (d || (e || (f || (g || (h || (i || (j || false)))))))))) ≡ ((a || (b || (c || (d || (e || (f || (g || (h || (i || false))))))))) || j)
last9 true b c d e f g h i j = refl
last9 false true c d e f g h i j = refl
last9 false false true d e f g h i j = refl
last9 false false false true e f g h i j = refl
last9 false false false false true f g h i j = refl
last9 false false false false false true g h i j = refl
last9 false false false false false false true h i j = refl
last9 false false false false false false false true i j = refl
last9 false false false false false false false false true j = refl
last9 false false false false false false false false false true = refl
last9 false false false false false false false false false false = refl

pub commands_listed : (w : List ℕ) → list_any (bytes_eq w) names ≡ (is_some (command_of w) || bytes_eq w (codes "help"))
commands_listed w = simp some_of (last9 (bytes_eq w (codes "check")) (bytes_eq w (codes "format")) (bytes_eq w (codes "view")) (bytes_eq w (codes "json")) (bytes_eq w (codes "binary")) (bytes_eq w (codes "rattle")) (bytes_eq w (codes "dot")) (bytes_eq w (codes "conform")) (bytes_eq w (codes "completions")) (bytes_eq w (codes "help")))
