pub mod Joined
pub mod LeastRoutes
pub mod Order
pub mod Picks
pub mod Places
mod RouteRows
pub mod Steps
pub mod Tables
