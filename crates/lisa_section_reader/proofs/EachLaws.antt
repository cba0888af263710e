-- What the grammar spells one behind the other are items one behind the other, both ways.
use Rattle.std.proofs.Common.{List}
use Rattle.lisa_tree.specs.Grammar.{Toks}
use Rattle.lisa_tree.specs.DescriptionGrammar.{Each, none, some}
use Rattle.lisa_words.specs.Many as items

pub to_items : {A : Type 0} {S : Toks → A → Type 0} {ts : Toks} {all : List A} → Each S ts all → items.Each S ts all
to_items none = items.none
to_items (some d f is) = items.some d (to_items f) is

pub from_items : {A : Type 0} {S : Toks → A → Type 0} {ts : Toks} {all : List A} → items.Each S ts all → Each S ts all
from_items items.none = none
from_items (items.some d f is) = some d (from_items f) is
