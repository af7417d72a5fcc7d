-- `link::fds::push_publics` meets its contract: after i turns the public ones of the first i imports stand on the stack. Assumes nothing.
use Prim.Native.Nat.{◌<◌}
use native.Mathlib.Omega.{arith}
use mathlib.Core.Path.{◌≡◌, sym, ap, ◌∙◌}
use lib.ListN.{get_or}
use Rattle.lists.proofs.TableLaws.{get_or_table}
use Rattle.image.specs.Schema.{Schema, schema, schema_in, schema_of}
use Rattle.image.specs.Record.{no_file, says}
use Rattle.image.specs.Places.{shelf_file, shelf_files}
use Rattle.link.specs.Search.{import_number}
use Rattle.link.proofs.PushLaws.{pushing_start, pushing_other, pushing_public, pushing_room, pushing_end}
use Rattle.link.proofs.fds.push_publics.Goals as goal
use Rattle.link.proofs.fds.push_publics.Goals.{then-import_public-ne0, else-import_public-ne0, After-import_public, After-read-image, In-loop-i, Then-import_public-ne0}

-- what the image says is what file f says
same-file : (c : After-read-image) → schema c.read-image.result ≡ says (get_or (shelf_files c.args.shelf.now c.args.n) c.args.f no_file)
unfolding schema_of
same-file c = rw (get_or_table c.args.n (shelf_file c.args.shelf.now) c.args.f no_file c.requires.f_lt_n, c.read-image.ensures, c.image.ensures, c.pool.ensures)

counted : (c : After-read-image) → c.read-image.result.rows.sections.imports.count ≡ (says (get_or (shelf_files c.args.shelf.now c.args.n) c.args.f no_file)).imports
unfolding schema_in
counted c = ap (λ (g : Schema). g.imports) (same-file c)

-- in a turn i is an import row, and its public word was read
row : (c : In-loop-i) → c.loop-i.i < (says (get_or (shelf_files c.args.shelf.now c.args.n) c.args.f no_file)).imports
row c = omega (arith, c.loop-i-test.true, counted (goal.at.In-loop-i c).After-read-image)

word : (c : After-import_public) → c.import_public.result ≡ (says (get_or (shelf_files c.args.shelf.now c.args.n) c.args.f no_file)).import_public c.loop-i.i
word c = c.import_public.ensures ∙ ap (λ (g : Schema). g.import_public c.loop-i.i) (same-file (goal.at.After-import_public c).After-read-image)

pub loop-i-init : goal.loop-i-init
loop-i-init c = pushing_start c.args.stack.now c.args.top c.requires.f_in_bounds

-- where it is not 0, the stack has room
pub bounds-stack-end : goal.bounds-stack-end
bounds-stack-end c =
    pushing_room c.loop-i.invariant (row (goal.at.bounds-stack-end c).In-loop-i) (λ z. c.if-import_public-ne0.true (word (goal.at.bounds-stack-end c).After-import_public ∙ z))

pub loop-i-preserved : goal.loop-i-preserved
loop-i-preserved c = elim c.if-import_public-ne0.branch [
  | then-import_public-ne0 w ↦ rw (w.stack-is, w.end-is)
      (pushing_public c.loop-i.invariant (row (goal.at.loop-i-preserved c).In-loop-i) (λ z. w.if-import_public-ne0.true (word (goal.at.loop-i-preserved c).After-import_public ∙ z)) w.import_number.result
      (w.import_number.ensures ∙ ap (λ (g : Schema). import_number (shelf_files c.args.shelf.now c.args.n) g c.loop-i.i) (same-file (goal.at.loop-i-preserved c).After-read-image)))
  | else-import_public-ne0 w ↦ rw (w.stack-is, w.end-is) (pushing_other c.loop-i.invariant (row (goal.at.loop-i-preserved c).In-loop-i) (sym (word (goal.at.loop-i-preserved c).After-import_public) ∙ w.if-import_public-ne0.false))
]

pub returns-clause-value : goal.returns-clause-value
returns-clause-value c = (pushing_end c.loop-i.invariant (omega (arith, c.loop-i-test.false, counted (goal.at.returns-clause-value c).After-read-image))).0

pub returns-clause-stack_after : goal.returns-clause-stack_after
returns-clause-stack_after c = (pushing_end c.loop-i.invariant (omega (arith, c.loop-i-test.false, counted (goal.at.returns-clause-stack_after c).After-read-image))).1
