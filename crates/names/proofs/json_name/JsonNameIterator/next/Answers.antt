-- `next` of the derived JSON name's bytes: what is left is derived from the bytes that are left. Assumes nothing.
use Rattle.std.proofs.Common.{rules, ◌≡◌, ◌∷◌, refl, ap, ◌∙◌, false}
use Rattle.std.specs.Slice.Iter.{iter_rest}
use Rattle.names.specs.Json.{derived_json_name, derived_from, json_left}
use Rattle.names.proofs.JsonLaws.{json_skip, json_take, json_end}
use Rattle.names.proofs.json_name.JsonNameIterator.next.Goals as goal
use Rattle.names.proofs.json_name.JsonNameIterator.next.Goals.{After-cased_byte}

-- a byte is taken
taken : (c : After-cased_byte) → json_left c.args.self.now ≡ c.cased_byte.result ∷ derived_json_name (iter_rest c.next.new.self)
taken c =
    let l = c.loop-b in
    let x = c.in-Some in
    l.invariant ∙ rw (x.ensures.steps, c.cased_byte.ensures) (json_take l.up x.field-0.now (iter_rest c.next.new.self) c.if-is_other.true)

pub loop-b-init : goal.loop-b-init
unfolding derived_json_name
loop-b-init c = refl

pub returns-then-is_other-clause-steps : goal.returns-then-is_other-clause-steps
returns-then-is_other-clause-steps c = taken c

pub returns-then-is_other-clause-goes : goal.returns-then-is_other-clause-goes
returns-then-is_other-clause-goes c = let e = taken c in search rules

pub loop-b-preserved : goal.loop-b-preserved
loop-b-preserved c =
    let l = c.loop-b in
    let x = c.in-Some in
    l.invariant ∙ ap (derived_from l.up) x.ensures.steps ∙ json_skip l.up x.field-0.now (iter_rest c.next.new.self) c.if-is_other.false

pub returns-clause-steps : goal.returns-clause-steps
unfolding derived_json_name
returns-clause-steps c =
    let l = c.loop-b in
    let e = c.in_default.ensures.steps in
    (l.invariant ∙ json_end l.up _ e.0, ap (λ i. derived_json_name (iter_rest i)) e.1 ∙ json_end false _ e.0)
