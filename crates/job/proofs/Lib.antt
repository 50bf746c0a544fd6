mod Jobs
mod Layouts
