-- What comes of what the command line asks for.
use Rattle.std.specs.Prelude.{ℕ, Bool, true, false, List, Option, None, Some}
use Rattle.command_line.specs.declared.words.Request.{Request}
use Rattle.command_line.specs.declared.words.Request.TheVariants.{Run, Check, World, Print, Explore, Explain}
use Rattle.command_line.specs.declared.exploring_words.Orders.{Orders}
use Rattle.command_line.specs.declared.exploring_words.Find.{Find}
use Rattle.command_line.specs.declared.answer.Answer.{Answer}
use Rattle.commands.specs.Files.{RanFile}
use Rattle.commands.specs.Checking.{CheckedAs}
use Rattle.commands.specs.Playing.{PlayedFiles}
use Rattle.commands.specs.Printing.{PrintedAs}
use Rattle.commands.specs.Exploring.{ExploredFile, WitnessedFile}
use Rattle.commands.specs.Finding.{AfterWords, FoundFile}
use Rattle.commands.specs.Graphing.{DrawnFile}
use Rattle.commands.specs.Explaining.{ExplainedAs}

-- of all orders their graph is wanted, a report that comes to an end, one that comes to what is sought, or what is found
abbrev pub SawOrders : Orders → Bool → Option ℕ → Option Find → Option (List ℕ) → Option (List ℕ) → Answer → Type 0
SawOrders o true to find old new a = DrawnFile None o.limit old new a
SawOrders o false (Some end) find old new a = WitnessedFile None o.limit end old new a
SawOrders o false None (Some find) old new a =
    AfterWords find.outcome.now (λ w. FoundFile None o.limit find.transaction.now w old new a) old new a
SawOrders o false None None old new a = ExploredFile None o.limit o.denied old new a

-- by what is asked: what doing it leaves that ends with this answer
abbrev pub Did : Request → Option (List ℕ) → Option (List ℕ) → Answer → Type 0
Did (Run r) old new a = RanFile None r.options.checkpoint r.options.seed old new a
Did (Check c) old new a = CheckedAs c.after old new a
Did (World w) old new a = PlayedFiles None None old new a
Did (Print p) old new a = PrintedAs p.what old new a
Did (Explore o) old new a = SawOrders o o.graph o.to o.find old new a
Did (Explain e) old new a = ExplainedAs e.what old new a
