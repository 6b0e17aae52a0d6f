mod KeptLaws
mod QueryLaws
mod RunLaws
mod TicketLaws
mod WorldLaws
