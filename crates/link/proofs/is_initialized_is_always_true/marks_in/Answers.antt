-- `link::is_initialized_is_always_true::marks_in` meets its contract. Assumes nothing.
use mathlib.Core.Path.{◌≡◌, sym, ap}
use Prim.Native.Nat.{ℕ, ◌+◌, ◌≤◌}
use native.Mathlib.Omega.{arith}
use Rattle.lists.proofs.TableLaws.{length_table}
use Rattle.image.specs.Schema.{Schema, schema, schema_of}
use Rattle.image.specs.Places.{shelf_file}
use Rattle.image.proofs.SchemaLaws.{messages_in}
use Rattle.link.specs.Sight.{seen_with}
use Rattle.link.proofs.FileIndexLaws.{read_says}
use Rattle.link.proofs.GraphLaws.{inside_all, sound_as, indexed_as, few_as, marks_all}
use Rattle.link.proofs.is_initialized_is_always_true.marks_in.Goals.{After-read-image}
use Rattle.link.proofs.is_initialized_is_always_true.marks_in.Goals as goal

said : (c : After-read-image) → schema c.read-image.result ≡ schema_of c.args.own.now.image.now c.args.own.now.pool.now
said c = read_says c.args.own.now.image c.args.own.now.pool c.read-image.ensures

-- the number of messages is read
size : (c : After-read-image) → c.read-image.result.rows.sections.messages.count ≡ (schema c.read-image.result).messages
size c = let i = c.read-image.result in sym (messages_in i.rows.words.now i.rows.sections i.pool.now)

few : (c : After-read-image) → c.read-image.result.rows.sections.messages.count ≤ 256
few c = omega (arith, size c, few_as (said c) c.requires.sound)

pub collect_causes-cause-requires : goal.collect_causes-cause-requires
collect_causes-cause-requires c =
    let r = (goal.at.collect_causes-cause-requires c).After-read-image in
    record { indexed = indexed_as (said r) c.requires.sound c.requires.links_value; messages_bound = few_as (said r) c.requires.sound }

pub collect_references-m-requires : goal.collect_references-m-requires
collect_references-m-requires c =
    let r = (goal.at.collect_references-m-requires c).After-read-image in
    record { sound = sound_as (said r) c.requires.sound; indexed = indexed_as (said r) c.requires.sound c.requires.links_value; fields_in_bounds = rw (said r) c.requires.fields_in_bounds }

pub distances-requires : goal.distances-requires
distances-requires c =
    let r = (goal.at.distances-requires c).After-read-image in (
      few r,
      omega (arith, c.collect_references-m.ensures.few, c.collect_references-m.auto.edges, ap (λ (g : Schema). g.fields) (said r), c.requires.fields_in_bounds),
      inside_all (size r) c.collect_references-m.ensures,
    )

pub returns : goal.returns
returns c i h =
    let a = c.args in
    let r = (goal.at.returns c).After-read-image in
    marks_all (seen_with a.shelf.now a.n a.own.now) a.fields.now c.collect_causes-cause.result (a.n + 1) (said r) (size r) (ap (λ (k : ℕ). k + 1) (sym (length_table a.n (shelf_file a.shelf.now))))
    c.collect_references-m.ensures c.collect_causes-cause.ensures (few r) c.distances.ensures i h
