use Rattle.flow_checks.proofs.flow.are_places.Goals as goal

pub returns-then-are_resources : goal.returns-then-are_resources
returns-then-are_resources c = (
  λ t. record { resources = c.are_resources.ensures.0 c.if-are_resources.true; points = c.are_points.ensures.0 t },
  λ places. c.are_points.ensures.1 places.points,
)
